use Rattle.lines.specs.Put.{fields}
use Rattle.lines.proofs.Puts.{then, room_first, room_after}
use Rattle.lines.proofs.put_line.Goals as goal

pub put_bytes-first-requires : goal.put_bytes-first-requires
put_bytes-first-requires c =
    room_first c.args.out.now c.args.at c.args.word.now (fields c.args.numbers.now) c.requires

pub put_fields-requires : goal.put_fields-requires
put_fields-requires c =
    room_after (fields c.args.numbers.now) c.put_bytes-first.ensures c.requires

pub returns : goal.returns
returns c =
    then c.put_bytes-first.ensures c.put_fields.ensures c.requires
