use Rattle.std.proofs.Common.{◌∙◌, refl, length, arith}
use Rattle.std.proofs.lemmas.Slice.{put_mid-paste}
use Rattle.lines.proofs.Puts.{put_paste}
use Rattle.lines.proofs.put_bytes.Goals as goal

pub returns : goal.returns
returns c =
    let a = c.args in
    let s = a.s.now in
    record {
      bytes = put_mid-paste a.at _ a.out.now _ s (length s) c.copy_from_slice.ensures.after (omega arith) refl ∙ put_paste a.out.now a.at s;
      place = refl;
    }
