use Rattle.bcl_message.proofs.message.tell.Goals as goal

pub returns-in-Refused-TooManyBytes-clause-message : goal.returns-in-Refused-TooManyBytes-clause-message
returns-in-Refused-TooManyBytes-clause-message g c =
    let why = rw c.in-Refused-TooManyBytes.is at c.in-Refused-TooManyBytes.field-0-is in
    rw (c.in-Refused-TooManyBytes.is, why) c.write_all.ensures.all

pub returns-in-Refused-TooManyLines-clause-message : goal.returns-in-Refused-TooManyLines-clause-message
returns-in-Refused-TooManyLines-clause-message g c =
    let why = rw c.in-Refused-TooManyLines.is at c.in-Refused-TooManyLines.field-0-is in
    rw (c.in-Refused-TooManyLines.is, why) c.write_all-in-Refused-TooManyLines.ensures.all

pub returns-in-Refused-TooManyWindows-clause-message : goal.returns-in-Refused-TooManyWindows-clause-message
returns-in-Refused-TooManyWindows-clause-message g c =
    let why = rw c.in-Refused-TooManyWindows.is at c.in-Refused-TooManyWindows.field-0-is in
    rw (c.in-Refused-TooManyWindows.is, why) c.write_all-in-Refused-TooManyWindows.ensures.all

pub returns-in-Usage-clause-message : goal.returns-in-Usage-clause-message
returns-in-Usage-clause-message g c = rw c.in-Usage.is c.write_all-in-Usage.ensures.all

pub returns-in-ReadFault-clause-message : goal.returns-in-ReadFault-clause-message
returns-in-ReadFault-clause-message g c = rw c.in-ReadFault.is c.write_all-in-ReadFault.ensures.all

pub returns-in-WriteFault-clause-message : goal.returns-in-WriteFault-clause-message
returns-in-WriteFault-clause-message g c = rw c.in-WriteFault.is c.write_all-in-WriteFault.ensures.all

pub returns-in-NoMemory-clause-message : goal.returns-in-NoMemory-clause-message
returns-in-NoMemory-clause-message g c = rw c.in-NoMemory.is c.write_all-in-NoMemory.ensures.all

pub returns-in-Refused-TooMuchText-clause-message : goal.returns-in-Refused-TooMuchText-clause-message
returns-in-Refused-TooMuchText-clause-message g c =
    let why = rw c.in-Refused-TooMuchText.is at c.in-Refused-TooMuchText.field-0-is in
    rw (c.in-Refused-TooMuchText.is, why) c.write_all-in-Refused-TooMuchText.ensures.all
