use mathlib.Core.List.{flatten}
use Rattle.std.proofs.Common.{sym, ◌∙◌}
use Rattle.plan_writer.specs.Bytes.{bytes_of_words}
use Rattle.plan_writer.proofs.Pasting.{paste_none, paste_next}
use Rattle.plan_writer.proofs.words.put_words.Goals as goal

pub loop-i-init : goal.loop-i-init
unfolding bytes_of_words flatten
loop-i-init c = sym (paste_none _ _)

pub loop-i-preserved : goal.loop-i-preserved
loop-i-preserved c =
    let a = c.args in
    let l = c.loop-i in
    paste_next a.buf.now l.buf c.copy_from_slice.new.self a.at a.words.now l.i c.loop-i-test.true c.requires l.invariant
    (c.copy_from_slice.ensures.after ∙ c.to_le_bytes.ensures)
