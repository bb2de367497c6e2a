use Rattle.std.proofs.Common.{map, ap, ◌∙◌}
use Rattle.std.specs.Int.{from_le_bytes, w32}
use Rattle.plan.proofs.WordLaws.{chunks_are_words}
use Rattle.plan.proofs.words.words.Goals as goal

pub returns : goal.returns
returns c =
    ap (map (from_le_bytes w32)) c.as_chunks.ensures.front ∙ chunks_are_words c.args.bytes.now
