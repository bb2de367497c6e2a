-- What the `ensures` of each exported function says of what it is lent at entry, of its result and of what it leaves. Each cites the
-- definitions that the Rattle call of the same name cites.
use Rattle.std.specs.Prelude.{ℕ, ◌*◌, ◌≡◌, cond, List, [], ◌∷◌, length}
use Rattle.meaning.specs.Answers
use Rattle.meaning.specs.declared.Refusal.{Refusal}
use Rattle.meaning.specs.declared.Connection.{Connection}
use Rattle.meaning.specs.Plan.{Lent, words_of, factor_at, connection_at, arrival_at, connection_words, arrival_words, reading_answer}
use Rattle.meaning.specs.Plan.{writing_answer}
use Rattle.words.specs.Places.{box_words}
use Rattle.tables.specs.Opening
use Rattle.words.specs.Sound.{sound_words}
use Rattle.multiplexer.specs.Promised.{admission, words_admitted, offering, words_offered, stepping, words_stepped}
use Rattle.plan_writer.specs.Written.{bytes_after}
use Rattle.whole_run.specs.Printing.{printing_answer, text_after}
use Rattle.cabinet.specs.Told.{Told}
use Rattle.cabinet.specs.Places.{stretch_first, stretch_size}

-- "A box takes one fixed number of words".
abbrev pub BoxWordsPromise : ℕ → Type 0
BoxWordsPromise r = r ≡ box_words

-- "Opening: 2, 17." It has no other field.
abbrev pub OpenPromise : List ℕ → ℕ → ℕ → List ℕ → ℕ → List ℕ → Type 0
OpenPromise entry interval cycle factors r exit =
    Told (Answers.opened (Opening.opened (Opening.asked interval cycle factors) entry).0) r [] ×
    (exit ≡ (Opening.opened (Opening.asked interval cycle factors) entry).1)

-- "1 | the state is not sound".
abbrev pub SoundPromise : List ℕ → ℕ → Type 0
SoundPromise entry r = r ≡ cond (sound_words entry) 0 (Answers.refusal_number Refusal.NotSound)

-- "Admission: 1, 3, 4, 5, 6." The fields are the connection's number, and t.
abbrev pub AdmitPromise : List ℕ → Connection → ℕ → List ℕ → List ℕ → Type 0
AdmitPromise entry c r fields exit = Told (Answers.admitted (admission entry c)) r fields × (exit ≡ words_admitted entry c)

-- "Offer: 1, 7, 8, 9, 10." The field is the packet's serial.
abbrev pub OfferPromise : List ℕ → ℕ → ℕ → ℕ → List ℕ → List ℕ → Type 0
OfferPromise entry n units r fields exit = Told (Answers.offered (offering entry n units)) r fields × (exit ≡ words_offered entry n units)

-- "Step: 1, 12, 11." The fields are the serial, the units left, the connection, the arrival and the departure.
abbrev pub StepPromise : List ℕ → ℕ → List ℕ → List ℕ → Type 0
StepPromise entry r fields exit = Told (Answers.stepped (stepping entry)) r fields × (exit ≡ words_stepped entry)

-- "Reading: 13, 14, 15, 16." The fields are D, M, and the count and the offset of each table.
abbrev pub ReadPromise : List ℕ → ℕ → List ℕ → Type 0
ReadPromise plan r fields = Told (Answers.plan_read (reading_answer plan)) r fields

-- "a factor per class": of the class table, counted from 0.
abbrev pub FactorPromise : List ℕ → ℕ → ℕ → List ℕ → Type 0
FactorPromise classes i r fields = Told (Answers.success (factor_at (words_of classes) i ∷ [])) r fields

-- "class, s, b, T per connection".
abbrev pub ConnectionPromise : List ℕ → ℕ → ℕ → List ℕ → Type 0
ConnectionPromise connections i r fields = Told (Answers.success (connection_words (connection_at (words_of connections) (4 * i)))) r fields

-- "slot, connection, length per arrival".
abbrev pub ArrivalPromise : List ℕ → ℕ → ℕ → List ℕ → Type 0
ArrivalPromise arrivals i r fields = Told (Answers.success (arrival_words (arrival_at (words_of arrivals) (3 * i)))) r fields

-- "The arrivals of one slot are handed back as a stretch of the caller's own bytes": its first byte and its size.
abbrev pub StretchPromise : List ℕ → ℕ → ℕ → ℕ → List ℕ → Type 0
StretchPromise arrivals from slot r fields =
    Told (Answers.success (stretch_first arrivals from slot ∷ stretch_size arrivals from slot ∷ [])) r fields

-- "Writing: 15, 16, 17." The field is the number of bytes written.
abbrev pub WritePromise : Lent → List ℕ → ℕ → List ℕ → List ℕ → Type 0
WritePromise l entry r fields exit =
    Told (Answers.plan_written (writing_answer l (length entry))) r fields × (exit ≡ bytes_after l entry)

-- "The program and one whole run": the lines as text, or 17 for a buffer that is too short. The field is the number of bytes written.
abbrev pub RunPromise : List ℕ → List ℕ → ℕ → List ℕ → List ℕ → Type 0
RunPromise plan entry r fields exit = Told (Answers.printed (printing_answer plan (length entry))) r fields × (exit ≡ text_after plan entry)
