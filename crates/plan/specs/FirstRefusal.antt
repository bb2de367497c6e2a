-- The number that reading answers, and the first test that refuses.
use Rattle.std.specs.Prelude.{ℕ, Bool, cond, List, length}
use Rattle.meaning.specs.Answers.{plan_read}
use Rattle.meaning.specs.Plan.{words_of, header_of, contents_of, layout_wrong, slots_wrong, reading_answer}

-- The number of the first test of reading that refuses, 0 where none does.
abbrev pub reading_of : Bool → Bool → Bool → Bool → ℕ
reading_of a b c d = cond a 13 (cond b 14 (cond c 15 (cond d 16 0)))

-- The number that reading answers.
unfoldable pub reading_number : List ℕ → ℕ
reading_number bytes = (plan_read (reading_answer bytes)).number

-- The test of the layout, by the plan's own header.
abbrev pub layout_off : List ℕ → Bool
layout_off bytes = layout_wrong (length bytes) (header_of (words_of bytes))

-- The test of the slots, by the plan's own header.
abbrev pub slots_off : List ℕ → Bool
slots_off bytes = slots_wrong (contents_of (words_of bytes) (header_of (words_of bytes))).arrivals
