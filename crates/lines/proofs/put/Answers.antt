use mathlib.Core.Path.{refl}
use Rattle.meaning.specs.Lines.{ascii, line_text}
use Rattle.lines.proofs.Texts.{line_room, line_put}
use Rattle.lines.proofs.put.Goals as goal

pub put_line-requires : goal.put_line-requires
unfolding line_text ascii
put_line-requires c = line_room "ADMIT" _ _ c.in-Admit.is refl _ _ c.requires

pub returns-in-Admit : goal.returns-in-Admit
unfolding line_text ascii
returns-in-Admit c = line_put "ADMIT" _ _ c.in-Admit.is refl c.put_line.ensures

pub put_line-requires-in-Offer : goal.put_line-requires-in-Offer
unfolding line_text ascii
put_line-requires-in-Offer c = line_room "OFFER" _ _ c.in-Offer.is refl _ _ c.requires

pub returns-in-Offer : goal.returns-in-Offer
unfolding line_text ascii
returns-in-Offer c = line_put "OFFER" _ _ c.in-Offer.is refl c.put_line-in-Offer.ensures

pub put_line-requires-in-Depart : goal.put_line-requires-in-Depart
unfolding line_text ascii
put_line-requires-in-Depart c = line_room "DEPART" _ _ c.in-Depart.is refl _ _ c.requires

pub returns-in-Depart : goal.returns-in-Depart
unfolding line_text ascii
returns-in-Depart c = line_put "DEPART" _ _ c.in-Depart.is refl c.put_line-in-Depart.ensures

pub put_line-requires-in-End : goal.put_line-requires-in-End
unfolding line_text ascii
put_line-requires-in-End c = line_room "END" _ _ c.in-End.is refl _ _ c.requires

pub returns-in-End : goal.returns-in-End
unfolding line_text ascii
returns-in-End c = line_put "END" _ _ c.in-End.is refl c.put_line-in-End.ensures

pub put_line-requires-in-Refused : goal.put_line-requires-in-Refused
unfolding line_text ascii
put_line-requires-in-Refused c = line_room "REFUSED" _ _ c.in-Refused.is refl _ _ c.requires

pub returns-in-Refused : goal.returns-in-Refused
unfolding line_text ascii
returns-in-Refused c = line_put "REFUSED" _ _ c.in-Refused.is refl c.put_line-in-Refused.ensures

pub put_line-requires-in-Stop : goal.put_line-requires-in-Stop
unfolding line_text ascii
put_line-requires-in-Stop c = line_room "STOP" _ _ c.in-Stop.is refl _ _ c.requires

pub returns-in-Stop : goal.returns-in-Stop
unfolding line_text ascii
returns-in-Stop c = line_put "STOP" _ _ c.in-Stop.is refl c.put_line-in-Stop.ensures
