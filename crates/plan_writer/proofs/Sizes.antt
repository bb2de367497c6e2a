-- The lengths of a plan's tables, words and bytes.
use Rattle.std.proofs.Common.{◌≡◌, ◌+◌, ◌*◌, List, [], ◌∷◌, map, length, refl, ◌∙◌, arith, length-append}
use mathlib.Core.List.{flatten}
use Rattle.meaning.specs.declared.Connection.{Connection}
use Rattle.meaning.specs.declared.Arrival.{Arrival}
use Rattle.meaning.specs.Plan.{Plan, connection_words, arrival_words, table_words, header_words, plan_words, plan_bytes, size_of}
use Rattle.plan_writer.specs.Bytes.{bytes_of_words}
use Rattle.plan_writer.proofs.Pasting.{length_bytes}

-- A connection has four words.
pub length_connections : (cs : List Connection) → length (flatten (map connection_words cs)) ≡ 4 * length cs
unfolding flatten connection_words
length_connections [] = refl
length_connections (c ∷ cs) = omega (arith, length_connections cs)

-- An arrival has three words.
pub length_arrivals : (l : List Arrival) → length (flatten (map arrival_words l)) ≡ 3 * length l
unfolding flatten arrival_words
length_arrivals [] = refl
length_arrivals (a ∷ l) = omega (arith, length_arrivals l)

-- The tables have a word a factor, four a connection and three an arrival.
pub length_tables :
    (plan : Plan) →
    length (table_words plan) ≡ length plan.settings.factors + 4 * length plan.connections + 3 * length plan.arrivals
unfolding table_words
length_tables plan =
    simp length-append (omega (arith, length_connections plan.connections, length_arrivals plan.arrivals))

-- A plan has ten words before its tables.
pub length_words : (plan : Plan) → length (plan_words plan) ≡ 10 + length (table_words plan)
unfolding plan_words header_words
length_words plan = omega arith

-- The bytes of a plan are as many as its size says.
pub length_plan : (plan : Plan) → length (plan_bytes plan) ≡ size_of plan
unfolding plan_bytes size_of bytes_of_words
length_plan plan = length_bytes (plan_words plan) ∙ omega (arith, length_words plan, length_tables plan)
