use Rattle.std.proofs.Common.{◌≡◌, ◌≤◌, ◌+◌, List, ℕ, length, ap, subst, arith, ◌∙◌}
use Rattle.dirdoc_grammar.specs.{declared.take.Take.TheVariants.NotYet, Feeding.Fed}
use Rattle.item_feeder.{specs.Feeders.{Shows, behind_next, fed_with}, proofs.Feeders.{fault_near, waits_with}}
use Rattle.item_feeder.proofs.{Feeders.within_length, Later.{later, shows_later}}
use Rattle.item_feeder.proofs.feeder.Feeder.look.Goals as goal

pub take_at-requires-clause-fault : goal.take_at-requires-clause-fault
take_at-requires-clause-fault c =
    let i = c.self.inside in
    let inv = c.self.invariant in
    let at_ = inv.reads in
    let same : length c.deref.result.now ≡ length i.bytes.items = ap length c.deref.ensures.value in
    let le : i.cursor.place ≤ length c.deref.result.now =
    omega (arith, same, at_.taken, at_.order, at_.later, at_.within) in
    let short : length c.deref.result.now ≤ i.cursor.limit =
    omega (arith, same, within_length i.cursor.limit i.bytes.items i.beside inv.within) in
    let fed = fed_with i.cursor c.deref.result.now i.beside i.finished in
    fault_near i.base c.deref.result.now i.cursor i.beside i.finished c.next_of.result
    (behind_next fed c.next_of.result) c.next_of.ensures.shows le short inv.small

pub returns-clause-shows : goal.returns-clause-shows
returns-clause-shows c =
    let i = c.self.inside in
    let base = i.base in
    let fed = fed_with i.cursor c.deref.result.now i.beside i.finished in
    let bytes : later base (fed_with i.cursor c.deref.result.now i.beside i.finished) ≡ later base
    (fed_with i.cursor i.bytes.items i.beside i.finished) =
    ap (λ (l : List ℕ). later base (fed_with i.cursor l i.beside i.finished)) c.deref.ensures.value in
    subst (λ (f : Fed). Shows f c.take_at.result) (bytes ∙ c.self.view_is)
    (shows_later base fed (behind_next fed c.next_of.result) c.next_of.result c.take_at.result c.next_of.ensures.shows
    c.take_at.ensures)

pub returns-then-self-clause-shows : goal.returns-then-self-clause-shows
returns-then-self-clause-shows c =
    let i = c.self.inside in
    let inv = c.self.invariant in
    let fed = fed_with i.cursor i.bytes.items i.beside i.finished in
    subst (λ (f : Fed). Shows f NotYet) c.self.view_is
    (shows_later i.base fed fed NotYet NotYet
    (waits_with i.cursor i.bytes.items i.beside i.finished (inv.alone c.if-self.true)
    (inv.waiting c.if-self.true)) tt)
