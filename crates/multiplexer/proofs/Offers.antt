-- An offer in words: what the row of a standing connection gives, the changes that make an acceptance, and the answers.
use Prim.Native.Nat.{ℕ, suc, ◌+◌, ◌-◌, ◌≤◌, ◌<◌}
use mathlib.Core.Path.{◌≡◌, refl, sym, ap, ap₂, ◌∙◌, subst}
use mathlib.Core.Bool.{true}
use mathlib.Core.List.{List, flatten}
use native.Mathlib.Numerals.{add-one}
use native.Mathlib.Omega.{arith}
use lib.ListN.{length, set, length-append}
use borrow.Author.Tests.{le-leb, lt-leb}
use Rattle.laws.specs.Tests.{within, within_facts}
use Rattle.meaning.specs.declared.Refusal.{Refusal}
use Rattle.meaning.specs.Numbers.{factor, largest_factor, most_waiting}
use Rattle.meaning.specs.declared.Allowance.{Allowance}
use Rattle.meaning.specs.Envelope.{conforms, charged, allowance_kept}
use Rattle.meaning.specs.Queues.{join_tail}
use Rattle.meaning.specs.declared.Packet.{Packet}
use Rattle.meaning.specs.Box.{Box, connection, stands, waiting, on_link, packets, sound}
use Rattle.meaning.specs.Calls.{allowance, with_standing, charged_at, joined, offer_answer, after_offer}
use Rattle.meaning.proofs.Facts.{ConnectionFacts, settings_facts}
use Rattle.meaning.proofs.KeptByOffer.{asked_allowed, allowance_kept_lem, factor_within, offer_keeps_sound}
use Rattle.meaning.proofs.QueueLaws.{joined_length}
use Rattle.meaning.specs.declared.Standing.{Standing}
use Rattle.words.specs.Places.{word, lengths_below, classes_at, row_count_at, accepted_at}
use Rattle.words.specs.Contents.{contents, settings_at, standings}
use Rattle.words.specs.Sound.{Fitting, sound_words}
use Rattle.words.specs.Changes.{Become}
use Rattle.store.specs.StoreChanges.{with_queues}
use Rattle.tables.specs.TableChanges.{with_accepted}
use Rattle.words.proofs.Ranges.{contains_within}
use Rattle.words.proofs.Counts.{waiting_count, sound_fitting}
use Rattle.words.proofs.PutContents.{row_count}
use Rattle.words.proofs.Readings.{classes_word, accepted_word}
use Rattle.words.proofs.TestedSound.{sound_contents}
use Rattle.words.proofs.Becoming.{become_then}
use Rattle.envelope.specs.Record.{Ready}
use Rattle.multiplexer.specs.Promised.{Leaves, Acceptable, accepted_box}
use Rattle.multiplexer.proofs.Sounds.{facts, leaves_same, leaves}
use Rattle.std.proofs.Common.{Result, Ok, Err}
use Rattle.meaning.specs.declared.Link.{Link}

-- The row of a connection that stands.
module _ (ws : List ℕ) (n : ℕ) (row : Standing) (h : sound_words ws ≡ true) (s : stands (contents ws) n ≡ true)
    (asked : connection (contents ws) n ≡ row.asked) (allowed : allowance (contents ws) n ≡ row.allowance)
  where
    -- The row of a connection that stands keeps the facts of the table of numbers.
    row_facts : ConnectionFacts (contents ws).settings row.asked
    row_facts = subst (ConnectionFacts (contents ws).settings) asked (asked_allowed (contents ws) n (facts ws h) s)

    -- The row of a connection that stands is ready to be charged at this slot.
    pub row_ready : Ready row (contents ws).counter
    row_ready =
        let f = row_facts in
        let m = (settings_facts (contents ws).settings (facts ws h).settings_allowed_lem).cycle_most in
        let p = f.period_most in
        record {
          burst_most = f.burst_most;
          period_least = f.period_least;
          period_most = omega arith;
          slot_most = (facts ws h).counter_most;
          kept = subst (λ c. allowance_kept c (contents ws).counter row.allowance ≡ true) asked
              (subst (λ a. allowance_kept (connection (contents ws) n) (contents ws).counter a ≡ true) allowed
              (allowance_kept_lem (contents ws) n (facts ws h) s));
        }

    -- The class of the row is one of the classes.
    pub class_within : (1 ≤ row.asked.class) × (row.asked.class ≤ word ws classes_at)
    unfolding contents
    class_within =
        let f = row_facts in
        let k = classes_word ws in
        let c = f.class_most in
        (f.class_least, omega arith)

-- A connection that stands has its number among the rows.
pub number_within : (ws : List ℕ) (n : ℕ) → stands (contents ws) n ≡ true → (1 ≤ n) × (n ≤ word ws row_count_at)
unfolding stands contents
number_within ws n s =
    let k = within_facts 1 n (length (standings ws)) s in
    let r = row_count ws in
    (k.0, omega arith)

-- The tag of a class is at most that of the last queue.
pub tag_most : (ws : List ℕ) (class : ℕ) → sound_words ws ≡ true → 1 ≤ class → class ≤ word ws classes_at
    → factor (contents ws).settings class ≤ largest_factor (contents ws).settings
unfolding contents
tag_most ws class h a b =
    let k = classes_word ws in
    factor_within (settings_at ws) class (settings_facts (settings_at ws) (facts ws h).settings_allowed_lem) a (omega arith)

-- The count of accepted packets of sound words is far below 2^32.
pub accepted_most : (ws : List ℕ) → sound_words ws ≡ true → (contents ws).accepted ≤ 4000001025
unfolding packets waiting on_link
accepted_most ws h =
    let f = facts ws h in
    let a = f.count_most in
    let b = f.counter_most in
    let w = f.waiting_most in
    let l = length-append (flatten (contents ws).queues) (on_link (contents ws).link) in
    let o = on_link_lem (contents ws).link in
    omega arith
  where
    on_link_lem : (l : Link) → length (on_link l) ≤ 1
    on_link_lem Link.Free = omega arith
    on_link_lem (Link.Carries p left) = omega arith

-- The three changes of an acceptance: the allowance a is written, the packet joins the queue tagged `tag`, and it is counted.
module _ (ws : List ℕ) (n units : ℕ) (row : Standing) (ok : Acceptable ws n units row) (a : Allowance) (tag : ℕ) where
  -- The box before the packet is accepted.
  abbrev box : Box
  box = contents ws

  -- The packet that is accepted.
  abbrev packet : Packet
  packet = record { serial = suc box.accepted; connection = n; units = units; arrival = box.counter }

  -- The box once its connection is charged.
  abbrev charged_box : Box
  charged_box = with_standing box (set box.standing (n - 1) (record { asked = connection box n; allowance = a }))

  -- The charged box with the packet at the tail of its queue.
  abbrev joined_box : Box
  joined_box = with_queues charged_box (join_tail tag packet charged_box.queues)

  module _ (w₁ : List ℕ) (charges : Become ws w₁ charged_box) where
    -- Once the connection is charged, its packet can join its queue.
    pub join_ready : tag ≤ largest_factor box.settings
        → Fitting w₁ × (tag ≤ largest_factor (contents w₁).settings) × (lengths_below w₁ 64 < 1024)
    unfolding with_standing waiting
    join_ready t =
        let c = waiting_count w₁ charges.fitting.untagged charges.fitting.largest in
        let e : length (flatten (contents w₁).queues) ≡ length (flatten box.queues) =
        ap (λ b. length (flatten b.queues)) charges.stands_for in
        let s : largest_factor (contents w₁).settings ≡ largest_factor box.settings =
        ap (λ b. largest_factor b.settings) charges.stands_for in
        let r = ok.room in
        (charges.fitting, omega arith, omega arith)

    module _ (w₂ : List ℕ) (joins : Become w₁ w₂ (with_queues (contents w₁) (join_tail tag packet (contents w₁).queues))) where
      -- Once the packet has joined, the words stand for the charged and joined box.
      joined_is : contents w₂ ≡ joined_box
      joined_is = joins.stands_for ∙ ap (λ b. with_queues b (join_tail tag packet b.queues)) charges.stands_for

      -- Charging and joining leave the count of accepted packets.
      accepted_same : (contents w₂).accepted ≡ box.accepted
      unfolding with_queues with_standing
      accepted_same = ap (λ b. b.accepted) joined_is

      -- Once the packet has joined, the count of accepted packets can be raised.
      pub count_ready : Fitting w₂ × (word w₂ accepted_at < 4294967295)
      count_ready =
          let e = sym (accepted_word w₂) ∙ accepted_same in
          let f = accepted_most ws ok.sound_words_lem in
          (joins.fitting, omega arith)

      -- Raising the count of accepted packets leaves as many waiting.
      counted_same : length (waiting (with_queues (contents w₁) (join_tail tag packet (contents w₁).queues))) ≡
          length (waiting (with_accepted (contents w₂) (suc (contents w₂).accepted)))
      unfolding waiting with_accepted
      counted_same = ap (λ b. length (flatten b.queues)) (sym joins.stands_for)

      -- Joining adds one packet to those that wait.
      joined_more : tag ≤ largest_factor box.settings → length (waiting joined_box) ≡ suc (length (waiting charged_box))
      unfolding waiting with_queues with_standing
      joined_more t = joined_length tag packet box.queues (let q = (facts ws ok.sound_words_lem).queue_count in omega arith)

      -- Charged, joined and counted, the box is that of an accepted offer.
      box_is : a ≡ charged row.asked row.allowance box.counter → tag ≡ factor box.settings row.asked.class
          → with_accepted joined_box (suc joined_box.accepted) ≡ accepted_box box n units
      unfolding with_accepted with_queues with_standing after_offer charged_at joined
      box_is ca ct =
          let e : a ≡ charged (connection box n) (allowance box n) box.counter =
          ca ∙ sym (ap₂ (λ c b. charged c b box.counter) ok.row_asked ok.row_allowance) in
          let f : tag ≡ factor box.settings (connection box n).class =
          ct ∙ sym (ap (λ c. factor box.settings c.class) ok.row_asked) in
          ap₂ built e f
        where
          built : Allowance → ℕ → Box
          built x t =
              record {
                settings = box.settings;
                standing = set box.standing (n - 1) (record { asked = connection box n; allowance = x });
                counter = box.counter;
                accepted = suc box.accepted;
                link = box.link;
                queues = join_tail t packet box.queues;
              }

      -- Charging, joining and counting make the words those of the box after an accepted offer.
      pub accepted_becomes : a ≡ charged row.asked row.allowance box.counter → tag ≡ factor box.settings row.asked.class
          → tag ≤ largest_factor box.settings
          → (w₃ : List ℕ) → Become w₂ w₃ (with_accepted (contents w₂) (suc (contents w₂).accepted)) → Become ws w₃ (accepted_box box n units)
      accepted_becomes ca ct t w₃ counts =
          let more : length (waiting joined_box) ≡ suc (length (waiting charged_box)) = joined_more t in
          let same : length (waiting (with_queues (contents w₁) (join_tail tag packet (contents w₁).queues))) ≡ length (waiting joined_box) =
          ap (λ b. length (waiting (with_queues b (join_tail tag packet b.queues)))) charges.stands_for in
          let two = become_then ws w₁ w₂ charged_box _ charges joins (omega arith) in
          let three = become_then ws w₂ w₃ _ _ two counts (native.Mathlib.Nat.le_of_eq counted_same) in
          subst (Become ws w₃) (ap (λ b. with_accepted b (suc b.accepted)) joined_is ∙ box_is ca ct) three

-- The packet as the code makes it.
pub packet_is : (ws : List ℕ) (n units serial slot : ℕ) → serial ≡ (contents ws).accepted → slot ≡ (contents ws).counter
    → ◌≡◌ {A = Packet} (record { serial = serial + 1; connection = n; units = units; arrival = slot })
    (record { serial = suc (contents ws).accepted; connection = n; units = units; arrival = (contents ws).counter })
packet_is ws n units serial slot e f =
    ap₂ (λ x y. record { serial = x; connection = n; units = units; arrival = y }) (add-one serial ∙ ap suc e) f

-- A packet that is taken: the answer is the next serial, and the words are those of the box with it.
module _ (ws : List ℕ) (n units : ℕ) (row : Standing) (ok : Acceptable ws n units row) where
  -- The answer is the next serial.
  next_serial : Ok (suc (contents ws).accepted) ≡ offer_answer (contents ws) n units
  unfolding offer_answer
  next_serial =
      let permitted : within 1 units (connection (contents ws) n).longest ≡ true = rw ok.row_asked ok.permitted in
      let fit : conforms (connection (contents ws) n) (allowance (contents ws) n) (contents ws).counter ≡ true =
      rw (ok.row_asked, ok.row_allowance) ok.fit in
      rw (sound_contents ws ok.sound_words_lem, ok.number_stands, permitted, fit, lt-leb most_waiting (length (waiting (contents ws))) ok.room) refl

  -- What the acceptance makes of the words is what the offer leaves.
  pub taken : (after : List ℕ) (serial : ℕ) → serial ≡ suc (contents ws).accepted → Become ws after (accepted_box (contents ws) n units)
      → (Ok serial ≡ offer_answer (contents ws) n units) ×
      Leaves ws after (after_offer (contents ws) n units (offer_answer (contents ws) n units))
  taken after serial q b = (
    ap Ok q ∙ next_serial,
    leaves ws after (after_offer (contents ws) n units (offer_answer (contents ws) n units)) ok.sound_words_lem
        (offer_keeps_sound (contents ws) n units (sound_contents ws ok.sound_words_lem))
        (subst (Become ws after) (ap (after_offer (contents ws) n units) next_serial) b),
  )

-- What an acceptance goes by.
pub ruleset accepting = (sound_fitting, accepted_most, number_within)

-- A refusal leaves the box as it was.
pub refused : (b : Box) (n units : ℕ) (why : Refusal) → after_offer b n units (Err why) ≡ b
unfolding after_offer
refused b n units why = refl

-- Where the packet fits the envelope and 1,024 packets wait, the answer of an offer on sound contents is 10.
pub answer_full : (b : Box) (n units : ℕ) → sound b ≡ true → stands b n ≡ true → within 1 units (connection b n).longest ≡ true
    → conforms (connection b n) (allowance b n) b.counter ≡ true → most_waiting ≤ length (waiting b)
    → Err Refusal.StoreFull ≡ offer_answer b n units
unfolding offer_answer
answer_full b n units s e f g h = rw (s, e, f, g, le-leb most_waiting (length (waiting b)) h) refl

-- What an offer goes by.
pub ruleset offers = (contains_within, sound_fitting, number_within, sound_contents, leaves_same, refused, le-leb, lt-leb)
