use Rattle.std.proofs.Common.{◌≡◌, take}
use Rattle.plan_writer.specs.Bytes.{bytes_of_words, pasted}
use Rattle.plan_writer.proofs.words.put_words.Given as goal

abbrev pub invariant-loop-i : goal.invariant-loop-i
invariant-loop-i l = l.buf ≡ pasted l.initial.buf l.at (bytes_of_words (take l.i l.words))
