use Rattle.std.proofs.Common.{◌≡◌, refl}
use Rattle.std.specs.Prelude.{Some}
use Rattle.bcl_event.specs.Promises.{Promise, code, promise_of, find, own, add, find_insert, push, pop, push_pop, read, any}
use Rattle.bcl_event.proofs.laws.numbers_name_promises.Goals as goal

named : (promise : Promise) → promise_of (code promise) ≡ Some promise
named find = refl
named own = refl
named add = refl
named find_insert = refl
named push = refl
named pop = refl
named push_pop = refl
named read = refl
named any = refl

pub returns : goal.returns
returns c = named
