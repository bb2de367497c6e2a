use mathlib.Core.Path.{sym, ◌∙◌}
use Rattle.whole_run.proofs.Passing.{carrying, link_free}
use Rattle.whole_run.proofs.slots.is_empty.Goals as goal

pub returns-in-Free : goal.returns-in-Free
returns-in-Free c = link_free _ _ (sym c.read_link.ensures ∙ c.in-Free.is) c.waiting_count.ensures

pub returns-in-Carries : goal.returns-in-Carries
returns-in-Carries c = carrying _ _ _ (sym c.read_link.ensures ∙ c.in-Carries.is)
