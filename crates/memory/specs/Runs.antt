-- A run of the public calls on lent words: the answers that the promises of `admit`, `offer` and `step` give, and the words that each
-- of them leaves for the next.
use Rattle.std.specs.Prelude.{ℕ, ◌≡◌, List, [], ◌∷◌, length, drop}
use Rattle.meaning.specs.Numbers.{Settings}
use Rattle.meaning.specs.Box.{Box}
use Rattle.words.specs.Places.{box_words}
use Rattle.words.specs.Contents.{contents}
use Rattle.tables.specs.Opening.{opened}
use Rattle.multiplexer.specs.Promised.{admission, words_admitted, offering, words_offered, stepping, words_stepped}
use Rattle.guarantees.specs.Runs.{Call, admit, offer, step, Reply, to_admission, to_offer, to_step, Event}

-- What a public call answers on these words, sound or not: "Admission: 1, 3, 4, 5, 6. Offer: 1, 7, 8, 9, 10. Step: 1, 12, 11."
unfoldable pub reply_on : List ℕ → Call → Reply
reply_on ws (admit c) = to_admission (admission ws c)
reply_on ws (offer n units) = to_offer (offering ws n units)
reply_on ws step = to_step (stepping ws)

-- The lent words after it: "Every refusal leaves all lent words and bytes unchanged".
unfoldable pub left_by : List ℕ → Call → List ℕ
left_by ws (admit c) = words_admitted ws c
left_by ws (offer n units) = words_offered ws n units
left_by ws step = words_stepped ws

-- The words after a run: each call finds what the one before it left.
unfoldable pub left_by_run : List ℕ → List Call → List ℕ
left_by_run ws [] = ws
left_by_run ws (c ∷ cs) = left_by_run (left_by ws c) cs

-- The events of a run on words: each call at the slot that the words stand at, and its answer.
unfoldable pub trace_on : List ℕ → List Call → List Event
trace_on ws [] = []
trace_on ws (c ∷ cs) = record { slot = (contents ws).counter; call = c; answer = reply_on ws c } ∷ trace_on (left_by ws c) cs

-- A run from the words that an opening left: its events, the words after it, and the box that these stand for.
abbrev pub opened_trace : Settings → List ℕ → List Call → List Event
opened_trace set ws calls = trace_on (opened set ws).1 calls

-- The words after a run from the words that an opening left.
abbrev pub opened_words : Settings → List ℕ → List Call → List ℕ
opened_words set ws calls = left_by_run (opened set ws).1 calls

-- The box that the words stand for after a run from the words that an opening left.
abbrev pub opened_box : Settings → List ℕ → List Call → Box
opened_box set ws calls = contents (opened_words set ws calls)

-- There are as many words as before, and "words beyond a state .. are never altered".
abbrev pub BeyondKept : List ℕ → List ℕ → Type 0
BeyondKept ws exit = (length exit ≡ length ws) × (drop box_words exit ≡ drop box_words ws)
