-- Taking the head of the lowest-tagged queue onto the link.
use Prim.Native.Nat.{ℕ, suc, ◌+◌, ◌*◌, ◌≤◌, ◌<◌}
use mathlib.Core.Path.{◌≡◌, refl, sym, ap, ◌∙◌}
use mathlib.Core.Bool.{true}
use mathlib.Core.List.{List, []}
use mathlib.Core.Option.{some}
use native.Mathlib.Omega.{arith}
use lib.ListN.{length, get_or, set, drop}
use Rattle.std.proofs.Common.{Option, None, Some, MatchOption}
use Rattle.laws.specs.Series.{get_or_series, every_index, length_series}
use Rattle.laws.specs.Tests.{every}
use Rattle.meaning.specs.Numbers.{largest_factor}
use Rattle.meaning.specs.Queues.{lowest_head, without_lowest_head}
use Rattle.meaning.specs.declared.Packet.{Packet}
use Rattle.meaning.specs.Box.{Box, packet_kept, waiting}
use Rattle.meaning.specs.Step.{loaded, link_taken, queues_taken}
use Rattle.meaning.proofs.Facts.{packet_facts}
use Rattle.words.specs.Places.{word, lengths_below, start_of, place_of, left_at, link_at, lengths_at, packets_at}
use Rattle.words.specs.Contents.{contents, settings_at, packet_at, no_packet, turns_at, queue_at, queues_at}
use Rattle.words.specs.Sound.{Fitting, sound_words}
use Rattle.words.specs.Changes.{Become}
use Rattle.store.specs.StoreChanges.{with_queues, loaded_box, lowest_tag, LowestTag}
use Rattle.tables.specs.TableChanges.{with_link}
use Rattle.words.proofs.Rotation.{place_below}
use Rattle.words.proofs.TableReads.{lengths_most}
use Rattle.words.proofs.Counts.{sound_fitting}
use Rattle.words.proofs.TestedSound.{sound_queues}
use Rattle.words.proofs.Same.{queue_tagged_at, waiting_length}
use Rattle.store.proofs.QueueLaws.{lowest_first, lowest_none, lowest_most, take_sets, take_none, take_head}
use Rattle.tables.proofs.LinkWritten.{link_free, link_busy}
use Rattle.store.proofs.Shift.{start_is}
use Rattle.words.proofs.Becoming.{become_then}
use Rattle.meaning.specs.declared.Link.{Link}

-- There are rP + 1 queues.
tags : (ws : List ℕ) → length (contents ws).queues ≡ suc (largest_factor (settings_at ws))
unfolding contents queues_at
tags ws = length_series (λ k. queue_at ws (place_of (turns_at ws) k)) 1 0 (suc (largest_factor (settings_at ws)))

-- The first tag below `end` whose queue has a packet is the lowest, and where none has one there is none.
pub lowest_found : (ws : List ℕ) (end : ℕ) (found : Option ℕ) → end ≡ suc (largest_factor (settings_at ws))
    → MatchOption found ((k : ℕ) → 0 ≤ k → k < end → length (get_or (contents ws).queues k []) ≡ 0)
    (λ i. (0 ≤ i) × (i < end) × (length (get_or (contents ws).queues i []) ≡ 0 → ⊥)
    × ((k : ℕ) → 0 ≤ k → k < i → length (get_or (contents ws).queues k []) ≡ 0))
    → LowestTag ws found
unfolding contents
lowest_found ws end None e h =
    let n = lowest_none (queues_at ws) (λ k l. h k (omega arith) (omega (arith, tags ws))) in
    (omega (arith, tags ws), omega (arith, tags ws, lowest_most (queues_at ws)))
lowest_found ws end (Some tag) e h = (lowest_first (queues_at ws) tag h.2 (λ k l. h.3 k (omega arith) l), omega arith)

-- What holds of the head of a queue that has a packet.
pub record Head (ws : List ℕ) (tag : ℕ) : Type 0 where
  pub fitting : Fitting ws
  pub waits : 1 ≤ word ws (lengths_at + place_of (turns_at ws) tag)
  pub units : 1 ≤ (packet_at ws (start_of ws (place_of (turns_at ws) tag))).units
  pub fits : start_of ws (place_of (turns_at ws) tag) + 4 ≤ length ws

-- A packet that is kept has at least one unit.
head_units : (ws : List ℕ) (at : ℕ) → packet_kept (contents ws) (packet_at ws at) ≡ true → 1 ≤ (packet_at ws at).units
head_units ws at e = (packet_facts (contents ws) (packet_at ws at) e).units_least

-- If every packet of a queue is kept, the one at its start is.
first_of : (ws : List ℕ) (P : ℕ) → every (packet_kept (contents ws)) (queue_at ws P) ≡ true → 1 ≤ word ws (lengths_at + P)
    → packet_kept (contents ws) (packet_at ws (start_of ws P + 4 * 0)) ≡ true
unfolding queue_at
first_of ws P e w = every_index (packet_kept (contents ws)) (packet_at ws) 4 (start_of ws P) (word ws (lengths_at + P)) e 0 (omega arith)

-- The head of a queue is the packet at its start.
first_read : (ws : List ℕ) (P : ℕ) → 1 ≤ word ws (lengths_at + P) → get_or (queue_at ws P) 0 no_packet ≡ packet_at ws (start_of ws P)
unfolding queue_at
first_read ws P w =
    (let z : start_of ws P + 4 * 0 ≡ start_of ws P = omega arith in
    get_or_series (packet_at ws) 4 (start_of ws P) (word ws (lengths_at + P)) 0 no_packet (omega arith) ∙ ap (packet_at ws) z)

-- A free link takes the lowest head with all its units to send.
taken_link : (l : Link) (qs : List (List Packet)) (p : Packet) → l ≡ Link.Free → lowest_head qs ≡ some p → link_taken l qs ≡ Link.Carries p p.units
unfolding link_taken loaded
taken_link l qs p e h = ap (λ l. link_taken l qs) e ∙ ap loaded h

-- A free link leaves the queues without the lowest head.
taken_queues : (l : Link) (qs : List (List Packet)) → l ≡ Link.Free → queues_taken l qs ≡ without_lowest_head qs
unfolding queues_taken
taken_queues l qs e = ap (λ l. queues_taken l qs) e

-- The box with the queues and the link after taking is the loaded box.
loaded_is : (ws : List ℕ) (Q : List (List Packet)) → Q ≡ queues_taken (contents ws).link (contents ws).queues
    → with_link (with_queues (contents ws) Q) (link_taken (contents ws).link (contents ws).queues) ≡ loaded_box (contents ws)
unfolding loaded_box
loaded_is ws Q e = ap (λ q. with_link (with_queues (contents ws) q) (link_taken (contents ws).link (contents ws).queues)) e

-- The box with the queues after taking has no more packets waiting than the loaded box.
same_waiting : (ws : List ℕ) (Q : List (List Packet)) → Q ≡ queues_taken (contents ws).link (contents ws).queues
    → length (waiting (with_queues (contents ws) Q)) ≤ length (waiting (loaded_box (contents ws)))
unfolding loaded_box with_link with_queues waiting
same_waiting ws Q e = rw e (omega arith)

-- Words that do not change become those of the box that they stand for.
unchanged : (ws : List ℕ) {box : Box} → Fitting ws → contents ws ≡ box → Become ws ws box
unchanged ws k e = record { fitting = k; stands_for = e; same_length = refl; beyond = λ i h. refl }

-- Where taking changes neither queues nor link, the box is its own loaded box.
same_box : (box : Box) → queues_taken box.link box.queues ≡ box.queues → link_taken box.link box.queues ≡ box.link
    → box ≡ loaded_box box
unfolding loaded_box with_link with_queues
same_box box a b =
    sym (ap (λ q. with_link (with_queues box q) (link_taken box.link box.queues)) a ∙ ap (with_link (with_queues box box.queues)) b)

-- A box whose link carries a packet is its own loaded box.
carried_box : (box : Box) (p : Packet) (left : ℕ) → box.link ≡ Link.Carries p left → box ≡ loaded_box box
unfolding link_taken queues_taken
carried_box box p left e = same_box box (ap (λ l. queues_taken l box.queues) e) (ap (λ l. link_taken l box.queues) e ∙ sym e)

-- A box with a free link and nothing waiting is its own loaded box.
idle_box : (box : Box) → box.link ≡ Link.Free → length box.queues ≤ lowest_tag box.queues → box ≡ loaded_box box
unfolding link_taken queues_taken loaded
idle_box box e h =
    (let t = take_none box.queues h in
    same_box box (ap (λ l. queues_taken l box.queues) e ∙ t.0) (ap (λ l. link_taken l box.queues) e ∙ ap loaded t.1 ∙ sym e))

-- The head of the lowest-tagged queue, as the code finds its first word.
pub head_at : (ws : List ℕ) (tag place below : ℕ) → place ≡ place_of (turns_at ws) tag → below ≡ lengths_below ws place
    → packets_at + 4 * below ≡ start_of ws (place_of (turns_at ws) tag)
head_at ws tag place below q l = ap (λ m. packets_at + 4 * m) (l ∙ ap (lengths_below ws) q) ∙ sym (start_is ws (place_of (turns_at ws) tag))

-- In sound words the queue of the lowest tag has a head, with units to send, within the words.
pub head_facts : (ws : List ℕ) (tag : ℕ) → sound_words ws ≡ true → tag ≡ lowest_tag (contents ws).queues
    → tag ≤ largest_factor (settings_at ws) → Head ws tag
head_facts ws tag e t h =
    (let k = sound_fitting ws e in
    let P = place_of (turns_at ws) tag in
    let small = place_below (turns_at ws) tag in
    let qs = (contents ws).queues in
    let w0 : 1 ≤ length (get_or qs (lowest_tag qs) []) = (take_head qs no_packet (omega (arith, tags ws))).1 in
    let w1 : length (get_or qs (lowest_tag qs) []) ≡ word ws (lengths_at + P) = ap (λ n. length (get_or qs n [])) (sym t) ∙
    waiting_length ws tag h in
    let w : 1 ≤ word ws (lengths_at + P) = omega arith in
    let kept = ((sound_queues ws e).tagged tag h (omega (arith, k.largest))).kept in
    let z : start_of ws P + 4 * 0 ≡ start_of ws P = omega arith in
    let p : packet_kept (contents ws) (packet_at ws (start_of ws P)) ≡ true =
    sym (ap (λ i. packet_kept (contents ws) (packet_at ws i)) z) ∙ first_of ws P kept w in
    record {
      fitting = k;
      waits = w;
      units = head_units ws (start_of ws P) p;
      fits = omega (arith, start_is ws P, lengths_most ws P 64 small, k.total, k.enough);
    })

-- Where the link carries a packet, the words as they are stand for the loaded box.
pub busy_become : (ws : List ℕ) → Fitting ws → (word ws left_at ≡ 0 → ⊥) → Become ws ws (loaded_box (contents ws))
busy_become ws k e = unchanged ws k (carried_box (contents ws) (packet_at ws link_at) (word ws left_at) (link_busy ws e))

-- Where the link is free and nothing waits, the words as they are stand for the loaded box.
pub idle_become : (ws : List ℕ) → Fitting ws → word ws left_at ≡ 0 → largest_factor (settings_at ws) < lowest_tag (contents ws).queues
    → Become ws ws (loaded_box (contents ws))
idle_become ws k e h = unchanged ws k (idle_box (contents ws) (link_free ws e) (omega (arith, tags ws)))

-- Taking the lowest head and then writing it to the free link makes the words those of the loaded box.
pub loaded_become : (ws mid after : List ℕ) (tag : ℕ) (p : Packet) → sound_words ws ≡ true → tag ≡ lowest_tag (contents ws).queues
    → tag ≤ largest_factor (settings_at ws) → word ws left_at ≡ 0 → p ≡ packet_at ws (start_of ws (place_of (turns_at ws) tag))
    → Become ws mid (with_queues (contents ws) (set (contents ws).queues tag (drop 1 (get_or (contents ws).queues tag []))))
    → Become mid after (with_link (contents mid) (Link.Carries p p.units))
    → Become ws after (loaded_box (contents ws))
loaded_become ws mid after tag p e t h f a b c =
    (let qs = (contents ws).queues in
    let P = place_of (turns_at ws) tag in
    let k = head_facts ws tag e t h in
    let d = tags ws in
    let free_link = link_free ws f in
    let Q = set qs tag (drop 1 (get_or qs tag [])) in
    let q : without_lowest_head qs ≡ Q = take_sets qs (omega arith) ∙ ap (λ n. set qs n (drop 1 (get_or qs n []))) (sym t) in
    let head : lowest_head qs ≡ some p = (take_head qs no_packet (omega arith)).0 ∙ ap (λ n. some (get_or (get_or qs n []) 0 no_packet)) (sym t) ∙
    ap (λ l. some (get_or l 0 no_packet)) (queue_tagged_at ws tag h) ∙ ap some (first_read ws P k.waits ∙ sym a) in
    let l : Link.Carries p p.units ≡ link_taken (contents ws).link qs = sym (taken_link (contents ws).link qs p free_link head) in
    let whole : with_link (contents mid) (Link.Carries p p.units) ≡ loaded_box (contents ws) =
    ap (λ x. with_link x (Link.Carries p p.units)) b.stands_for ∙ ap (with_link (with_queues (contents ws) Q)) l ∙
    loaded_is ws Q (sym (taken_queues (contents ws).link qs free_link ∙ q)) in
    become_then ws mid after (with_queues (contents ws) Q) (loaded_box (contents ws)) b (rw whole at c)
    (same_waiting ws Q (sym (taken_queues (contents ws).link qs free_link ∙ q))))
