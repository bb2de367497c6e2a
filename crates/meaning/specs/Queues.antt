-- Document 01, "Queues and steps", first paragraph: the order of sending, in both of its wordings. `A` is what a packet is.
use Rattle.std.specs.Prelude.{ℕ, zero, suc, ◌+◌, ◌/◌, ◌%◌, Bool, true, false, cond, ◌&&◌, List, [], ◌∷◌, ◌++◌, replicate, leb, ltb, eqb}
use Rattle.std.proofs.Math.Option.{Option, none, some}
use Rattle.meaning.specs.Numbers.{Settings, factor, largest_factor}

-- "At each slot that is a positive multiple of D": the slots at which the queues turn.
unfoldable pub turn_at : ℕ → ℕ → Bool
turn_at D slot = ltb 0 slot && eqb (slot % D) 0

module _ {A : Type 0} where
  -- "There are rP + 1 queues, tagged 0 to rP": a list of queues, the one tagged k at place k, each with its head first.
  unfoldable pub empty_queues : Settings → List (List A)
  empty_queues set = replicate (suc (largest_factor set)) []

  -- "An accepted packet of class p joins the tail of the queue tagged rp."
  unfoldable pub join_tail : ℕ → A → List (List A) → List (List A)
  join_tail tag p [] = []
  join_tail zero p (q ∷ qs) = (q ++ (p ∷ [])) ∷ qs
  join_tail (suc tag) p (q ∷ qs) = q ∷ join_tail tag p qs

  -- "every tag falls by one, the old 0 becomes rP".
  unfoldable pub turned : List (List A) → List (List A)
  turned [] = []
  turned (q ∷ qs) = qs ++ (q ∷ [])

  -- "the head of the lowest-tagged queue that has a packet".
  unfoldable pub lowest_head : List (List A) → Option A
  lowest_head [] = none
  lowest_head ([] ∷ qs) = lowest_head qs
  lowest_head ((p ∷ q) ∷ qs) = some p

  -- The queues once that head is taken.
  unfoldable pub without_lowest_head : List (List A) → List (List A)
  without_lowest_head [] = []
  without_lowest_head ([] ∷ qs) = [] ∷ without_lowest_head qs
  without_lowest_head ((p ∷ q) ∷ qs) = q ∷ qs

  -- "tag 0 still has a waiting packet".
  unfoldable pub tag_zero_waits : List (List A) → Bool
  tag_zero_waits [] = false
  tag_zero_waits ([] ∷ qs) = false
  tag_zero_waits ((p ∷ q) ∷ qs) = true

-- "Said without tags: a packet accepted at slot a has the rank floor(a/D) + rp."
unfoldable pub rank : Settings → ℕ → ℕ → ℕ
rank set class arrival = arrival / set.interval + factor set class

-- A waiting packet with its rank.
pub record Ranked (A : Type 0) : Type 0 where
  pub rank_is : ℕ
  pub packet : A

module _ {A : Type 0} where
  -- Of a packet and the one chosen among those accepted after it: "the lowest rank goes first, and within one rank the first accepted".
  unfoldable pub earlier : Ranked A → Option (Ranked A) → Option (Ranked A)
  earlier p none = some p
  earlier p (some q) = cond (leb p.rank_is q.rank_is) (some p) (some q)

  -- The packet that goes first, among those that wait in the order of acceptance.
  unfoldable pub lowest_rank : List (Ranked A) → Option (Ranked A)
  lowest_rank [] = none
  lowest_rank (p ∷ ps) = earlier p (lowest_rank ps)

  -- The chosen packet, without its rank.
  unfoldable pub packet_of : Option (Ranked A) → Option A
  packet_of none = none
  packet_of (some p) = some p.packet

  -- The waiting packets without the first accepted one of this rank.
  unfoldable pub without_rank : ℕ → List (Ranked A) → List (Ranked A)
  without_rank r [] = []
  without_rank r (p ∷ ps) = cond (eqb p.rank_is r) ps (p ∷ without_rank r ps)

  -- The waiting packets once the chosen one is taken.
  unfoldable pub without_chosen : Option (Ranked A) → List (Ranked A) → List (Ranked A)
  without_chosen none ps = ps
  without_chosen (some p) ps = without_rank p.rank_is ps

  -- A packet of this rank waits.
  unfoldable pub rank_waits : ℕ → List (Ranked A) → Bool
  rank_waits r [] = false
  rank_waits r (p ∷ ps) = cond (eqb p.rank_is r) true (rank_waits r ps)

-- What befalls the queues: a packet of a class with this factor is accepted, the next packet is taken, the counter is raised.
pub data Move (A : Type 0) : Type 0 where
  accept : ℕ → A → Move A
  take : Move A
  raise : Move A

-- What is seen of a move: the packet taken, and whether the counter was raised or the turn blocked, since tag 0 still had a packet.
pub data Seen (A : Type 0) : Type 0 where
  accepted : Seen A
  taken : Option A → Seen A
  raised : Seen A
  blocked : Seen A

-- The slot, and what waits, in one of the two wordings.
pub record At (W : Type 0) : Type 0 where
  pub slot : ℕ
  pub waiting : W

module _ {A : Type 0} (D : ℕ) where
  -- The counter is raised: is the turn due, is it blocked, and what waits after a turn.
  unfoldable pub raising : {W : Type 0} → At W → Bool → Bool → W → Seen A × At W
  raising s false b w = (raised, record { slot = suc s.slot; waiting = s.waiting })
  raising s true false w = (raised, record { slot = suc s.slot; waiting = w })
  raising s true true w = (blocked, s)

  -- A move, said with tags.
  unfoldable pub by_tags : Move A → At (List (List A)) → Seen A × At (List (List A))
  by_tags (accept r p) s = (accepted, record { slot = s.slot; waiting = join_tail r p s.waiting })
  by_tags take s = (taken (lowest_head s.waiting), record { slot = s.slot; waiting = without_lowest_head s.waiting })
  by_tags raise s = raising s (turn_at D (suc s.slot)) (tag_zero_waits s.waiting) (turned s.waiting)

  -- A move, said with ranks: nothing turns.
  unfoldable pub by_ranks : Move A → At (List (Ranked A)) → Seen A × At (List (Ranked A))
  by_ranks (accept r p) s =
      (accepted, record { slot = s.slot; waiting = s.waiting ++ (record { rank_is = s.slot / D + r; packet = p } ∷ []) })
  by_ranks take s = (
    taken (packet_of (lowest_rank s.waiting)),
    record
        { slot = s.slot; waiting = without_chosen (lowest_rank s.waiting) s.waiting },
  )
  by_ranks raise s = raising s (turn_at D (suc s.slot)) (rank_waits (s.slot / D) s.waiting) s.waiting

-- What is seen of the moves, one after another.
unfoldable pub seen_of : {A S : Type 0} → (Move A → S → Seen A × S) → List (Move A) → S → List (Seen A)
seen_of move [] s = []
seen_of move (m ∷ ms) s = (move m s).0 ∷ seen_of move ms (move m s).1
