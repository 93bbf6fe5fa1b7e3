-- `plain::is_plain` meets its contract: the digits to base 256 of the number that the bytes stand for are the bytes.
-- Assumes nothing.
use Rattle.std.proofs.Common.{arith, rules}
use Rattle.utf8.proofs.Runs.{digits_plain}
use Rattle.utf8.proofs.plain.is_plain.Goals as goal

pub returns : goal.returns
returns c = digits_plain c.args.word.now (omega arith) (search rules) c.from_le_bytes-number.result c.from_le_bytes-number.ensures
