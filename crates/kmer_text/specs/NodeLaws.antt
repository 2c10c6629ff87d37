-- That nodes keep the laws of objects.
-- The laws of `Object` at `Node` cite these.
use Rattle.std.specs.Prelude.{◌≡◌, ℕ, ◌+◌, ◌*◌, ◌≤◌, ◌↔◌, List, true, ◌&&◌, ◌==◌, slice_index}
use Rattle.std.proofs.Common.{ap, subst, arith}
use Rattle.std.proofs.Props.{props}
use Rattle.std.proofs.lemmas.Bool.{and_parts, and_from}
use Rattle.std.proofs.lemmas.Bool.Decides.{Decides-eqb}
use Rattle.bcl_words.specs.Words.{IsWords, is_words}
use Rattle.bcl_words.specs.WordLaws.{words_if_test}
use Rattle.kmer_text.specs.NodeWords.{node_words, are_codes, is_node}
use Rattle.kmer_text.specs.declared.node.Node.{Node}

pub node_shape : (w : List ℕ) → is_node w ≡ true → IsWords 2 w
node_shape w p = words_if_test 2 w (and_parts (is_words 2 w) (are_codes (slice_index w 1)) p).0

-- the words tell the fields
pub fields_same : (l b f l' b' f' : ℕ) → f ≤ 4 → f' ≤ 4 → node_words l b f ≡ node_words l' b' f' → (l ≡ l') × ((b ≡ b') × (f ≡ f'))
fields_same l b f l' b' f' h h' e =
    let codes : 8 * b + f ≡ 8 * b' + f' = cc in
    (cc, (omega arith, omega arith))

-- ---- nodes as values

abbrev made : (line back forward : ℕ) → (back ≤ 4) × (forward ≤ 4) → Node
made line back forward codes = record { line = line; back = back; forward = forward; codes = codes }

one_proof : (b f : ℕ) → IsProp ((b ≤ 4) × (f ≤ 4))
one_proof b f = hlevel props

same_fields : (l b f l' b' f' : ℕ) (c : (b ≤ 4) × (f ≤ 4)) (c' : (b' ≤ 4) × (f' ≤ 4)) → l ≡ l' → b ≡ b' → f ≡ f' → made l b f c ≡ made l' b' f' c'
same_fields l b f l' b' f' c c' d e g =
    subst (λ (m : ℕ). made l b f c ≡ made m b' f' c') d
    (subst (λ (m : ℕ). (k : (m ≤ 4) × (f' ≤ 4)) → made l b f c ≡ made l m f' k) e
    (subst (λ (m : ℕ). (k : (b ≤ 4) × (m ≤ 4)) → made l b f c ≡ made l b m k) g (λ k. ap (made l b f) (one_proof b f c k))) c')

pub node_same : (x y : Node) → node_words x.line x.back x.forward ≡ node_words y.line y.back y.forward → x ≡ y
node_same x y e =
    let h = fields_same x.line x.back x.forward y.line y.back y.forward x.codes.1 y.codes.1 e in
    same_fields x.line x.back x.forward y.line y.back y.forward x.codes y.codes h.0 h.1.0 h.1.1

-- == of the fields
pub node_equal : (x y : Node) → ((x.line == y.line) && ((x.back == y.back) && (x.forward == y.forward)) ≡ true) ↔ (node_words x.line x.back x.forward ≡ node_words y.line y.back y.forward)
node_equal x y = (there, back)
  where
    there : (x.line == y.line) && ((x.back == y.back) && (x.forward == y.forward)) ≡ true → node_words x.line x.back x.forward ≡ node_words y.line y.back y.forward
    there t =
        let p = and_parts (x.line == y.line) ((x.back == y.back) && (x.forward == y.forward)) t in
        let q = and_parts (x.back == y.back) (x.forward == y.forward) p.1 in
        let l : x.line ≡ y.line = (Decides-eqb x.line y.line).0 p.0 in
        let b : x.back ≡ y.back = (Decides-eqb x.back y.back).0 q.0 in
        let f : x.forward ≡ y.forward = (Decides-eqb x.forward y.forward).0 q.1 in
        cc

    back : node_words x.line x.back x.forward ≡ node_words y.line y.back y.forward → (x.line == y.line) && ((x.back == y.back) && (x.forward == y.forward)) ≡ true
    back e =
        let h = fields_same x.line x.back x.forward y.line y.back y.forward x.codes.1 y.codes.1 e in
        and_from _ _ ((Decides-eqb x.line y.line).1 h.0)
        (and_from _ _ ((Decides-eqb x.back y.back).1 h.1.0) ((Decides-eqb x.forward y.forward).1 h.1.1))
