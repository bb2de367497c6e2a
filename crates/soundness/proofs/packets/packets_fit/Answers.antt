use Rattle.std.proofs.Common.{◌≡◌, ℕ, ◌+◌, ◌*◌, ◌-◌, ◌<◌, ◌≤◌, ◌&&◌, true, ap, ◌∙◌, rules, arith}
use Rattle.laws.specs.Series.{series, series_next, series_done}
use Rattle.meaning.specs.declared.Packet.{Packet}
use Rattle.meaning.specs.Box.{Box}
use Rattle.words.specs.Contents.{contents, packet_at}
use Rattle.words.specs.Tested.{packet_fits, packets_fit}
use Rattle.soundness.proofs.packets.packets_fit.Goals as goal

-- The packets from number i on fit if it fits, and those behind it.
fits_next : (box : Box) (rank before : ℕ) (f : ℕ → Packet) (start count i : ℕ) → i < count
    → packets_fit box rank before (series f 4 (start + 4 * i) (count - i))
    ≡ (packet_fits box rank before (f (start + 4 * i)) &&
    packets_fit box rank (f (start + 4 * i)).serial (series f 4 (start + 4 * (i + 1)) (count - (i + 1))))
unfolding packets_fit
fits_next box rank before f start count i h =
    (let e : start + 4 * i + 4 ≡ start + 4 * (i + 1) = omega arith in
    ap (packets_fit box rank before) (series_next f 4 (start + 4 * i) count i h) ∙
    ap (λ at. packet_fits box rank before (f (start + 4 * i)) && packets_fit box rank (f (start + 4 * i)).serial (series f 4 at (count - (i + 1)))) e)

-- Behind the last packet nothing is left to fit.
fits_end : (box : Box) (rank before : ℕ) (f : ℕ → Packet) (at count i : ℕ) → count ≤ i → packets_fit box rank before (series f 4 at (count - i)) ≡ true
unfolding packets_fit
fits_end box rank before f at count i h = ap (packets_fit box rank before) (series_done f 4 at count i h)

pub returns-then-not-packet_fits : goal.returns-then-not-packet_fits
returns-then-not-packet_fits c =
    let a = c.args in
    let next = fits_next (contents a.ws.now) a.rank c.loop-i.before (packet_at a.ws.now) a.start a.count c.loop-i.i c.loop-i-test.true in
    search rules

pub loop-i-preserved : goal.loop-i-preserved
loop-i-preserved c =
    let a = c.args in
    let next = fits_next (contents a.ws.now) a.rank c.loop-i.before (packet_at a.ws.now) a.start a.count c.loop-i.i c.loop-i-test.true in
    search rules

pub returns : goal.returns
returns c =
    let a = c.args in
    let end = fits_end (contents a.ws.now) a.rank c.loop-i.before (packet_at a.ws.now) (a.start + 4 * c.loop-i.i) a.count c.loop-i.i c.loop-i-test.false in
    search rules
