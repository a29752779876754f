use Rattle.std.proofs.Common.{◌≡◌, ◌≤◌, ap, arith, length, vec_capacity}
use Rattle.relay_select.specs.Walks.{Walk}
use Rattle.document_checks.proofs.Steps.{room_stays}
use Rattle.document_checks.proofs.walks.walked.Goals as goal

pub next-requires : goal.next-requires
next-requires c =
    let votes : c.in_ok-walk.walk.votes ≡ length c.place-2.new.self.votes =
    ap (λ (w : Walk). w.votes) c.in_ok-walk.ensures in
    omega (arith, votes, c.len-count.ensures, c.in_ok-group.ensures.exact)

pub next-requires-2 : goal.next-requires-2
next-requires-2 c =
    let votes : c.in_ok-walk.walk.votes ≡ length c.place-2.new.self.votes =
    ap (λ (w : Walk). w.votes) c.in_ok-walk.ensures in
    let first : c.in_ok-walk.walk.votes ≤ vec_capacity c.in_ok-group.group =
    omega (arith, votes, c.len-count.ensures, c.in_ok-group.ensures.exact) in
    room_stays _ _ c.next.result _ _ _ c.next.ensures.gives first c.next.ensures.capacity

pub next-requires-3 : goal.next-requires-3
next-requires-3 c =
    let votes : c.in_ok-walk.walk.votes ≡ length c.place-2.new.self.votes =
    ap (λ (w : Walk). w.votes) c.in_ok-walk.ensures in
    let first : c.in_ok-walk.walk.votes ≤ vec_capacity c.in_ok-group.group =
    omega (arith, votes, c.len-count.ensures, c.in_ok-group.ensures.exact) in
    let second : c.next.new.self.votes ≤ vec_capacity c.next.new.group =
    room_stays _ _ c.next.result _ _ _ c.next.ensures.gives first c.next.ensures.capacity in
    room_stays _ _ c.next-2.result _ _ _ c.next-2.ensures.gives second c.next-2.ensures.capacity

pub next-requires-4 : goal.next-requires-4
next-requires-4 c =
    let votes : c.in_ok-walk.walk.votes ≡ length c.place-2.new.self.votes =
    ap (λ (w : Walk). w.votes) c.in_ok-walk.ensures in
    let first : c.in_ok-walk.walk.votes ≤ vec_capacity c.in_ok-group.group =
    omega (arith, votes, c.len-count.ensures, c.in_ok-group.ensures.exact) in
    let second : c.next.new.self.votes ≤ vec_capacity c.next.new.group =
    room_stays _ _ c.next.result _ _ _ c.next.ensures.gives first c.next.ensures.capacity in
    let third : c.next-2.new.self.votes ≤ vec_capacity c.next-2.new.group =
    room_stays _ _ c.next-2.result _ _ _ c.next-2.ensures.gives second c.next-2.ensures.capacity in
    room_stays _ _ c.next-3.result _ _ _ c.next-3.ensures.gives third c.next-3.ensures.capacity
