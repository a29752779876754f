-- A board may be shared by threads, and a worker may go to one.
use denote.RattleType.{RattleType}
use denote.Ref.{NamedLft}
use denote.Struct.Declared.{shape}
use denote.Struct.Struct.{Struct}
use denote.Param.Send.{IsSend, IsSync, sendable, struct_send, recorded_send, view_send}
use denote.Param.Send.{struct_sync, recorded_sync, view_sync}
use Rattle.std.proofs.Crossing.{crosses}
use Rattle.std.proofs.alloc.Global.TheSendSync as heap
use Rattle.atomic_table.proofs.shared.Seat.TheSendSync as seat
use Rattle.atomic_table.proofs.shared.Shared.TheSendSync as table
use Rattle.atomic_table.proofs.send_lease.SendLease.TheSendSync as lease
use Rattle.bytes.proofs.shared.Bytes.TheSendSync as bytes
use Rattle.key_port.specs.declared.verifier.Verifier.{Ghosts}
use Rattle.period_lock.specs.declared.storied.Storied as storied
use Rattle.period_lock.specs.contracts.lock.Shared as lock
use Rattle.period_lock.specs.contracts.lock.Shared.TheInside as lock_inside
use Rattle.period_lock.specs.contracts.pass.Pass as turns
use Rattle.period_lock.specs.contracts.pass.Pass.TheInside as turns_inside
use Rattle.consensus_terms.specs.contracts.consensus.ConsensusFacts as facts
use Rattle.consensus_terms.specs.contracts.consensus.Consensus as consensus
use Rattle.period_core.specs.contracts.state.PeriodState as state
use Rattle.vote_doc.specs.contracts.accepted.Accepted as accepted
use Rattle.period_core.specs.contracts.state.PeriodState.TheInside as state_inside
use Rattle.vote_pool.specs.contracts.kept.KeptDescriptor as kept
use Rattle.vote_pool.specs.contracts.entry.PoolEntry as entry
use Rattle.vote_pool.specs.contracts.entry.PoolEntry.TheInside as entry_inside
use Rattle.vote_pool.specs.contracts.pool.Pool as pool
use Rattle.vote_pool.specs.contracts.pool.Pool.TheInside as pool_inside
use Rattle.station_input.specs.contracts.facts.StationFacts as given
use Rattle.serve_board.specs.contracts.board.Board as board
use Rattle.serve_board.specs.contracts.board.Board.TheInside as board_inside
use Rattle.serve_board.specs.contracts.pass.Pass as pass
use Rattle.serve_board.specs.contracts.pass.Pass.TheInside as pass_inside
use Rattle.serve_work.specs.contracts.attendant.Attendant as attendant
use Rattle.serve_work.specs.contracts.attendant.Keeper as keeper

-- ---- a lock and its passes, round what may go to another thread

lock_sync : (T S E : RattleType) (g : storied.Ghosts T.Denot S.Denot E.Denot) → IsSend T
    → IsSync (lock.the_row T S E g)
lock_sync T S E g sent =
    view_sync _ _ _ _ _
    (recorded_sync (Struct (shape (lock_inside.the_type T S E g))) _ _ (lock_inside.the_type T S E g).to_one
    (struct_sync (shape (lock_inside.the_type T S E g)) (
      search (table.the_sync, lease.the_sync, heap.the_send, heap.the_sync, sendable, crosses) depth 20,
      (search sendable, tt),
    )))

turns_send : (T S E : RattleType) (g : storied.Ghosts T.Denot S.Denot E.Denot) → IsSend T
    → IsSend (turns.the_row T S E g)
turns_send T S E g sent =
    view_send _ _ _ _ _
    (recorded_send (Struct (shape (turns_inside.the_type T S E g))) _ _ (turns_inside.the_type T S E g).to_one
    (struct_send (shape (turns_inside.the_type T S E g)) (
      search (seat.the_send, sendable, crosses) depth 20,
      (search sendable, tt),
    )))

-- ---- a pool and a state

kept_send : IsSend (Struct (shape kept.the_type))
kept_send =
    struct_send (shape kept.the_type)
    (search (bytes.the_send, heap.the_send, heap.the_sync, sendable, crosses) depth 20)

entry_send : (V : RattleType) (g : Ghosts V.Denot) → IsSend (entry.the_row V g)
entry_send V g =
    view_send _ _ _ _ _
    (recorded_send (Struct (shape (entry_inside.the_type V g))) _ _ (entry_inside.the_type V g).to_one
    (struct_send (shape (entry_inside.the_type V g)) (
      search (kept_send, sendable, crosses) depth 40,
      (search crosses, (search (sendable, crosses), tt)),
    )))

pool_send : (V : RattleType) (g : Ghosts V.Denot) → IsSend (pool.the_row V g)
pool_send V g =
    view_send _ _ _ _ _
    (recorded_send (Struct (shape (pool_inside.the_type V g))) _ _ (pool_inside.the_type V g).to_one
    (struct_send (shape (pool_inside.the_type V g)) (search (entry_send, sendable, crosses), (search sendable, tt))))

facts_send : IsSend (Struct (shape facts.the_type))
facts_send = struct_send (shape facts.the_type) (search (sendable, crosses) depth 60 fits 20000)

consensus_send : IsSend (Struct (shape consensus.the_type))
consensus_send = struct_send (shape consensus.the_type) (facts_send, (search sendable depth 20, tt))

accepted_send : IsSend accepted.the_row
accepted_send = search (bytes.the_send, heap.the_send, heap.the_sync, sendable, crosses) depth 200 fits 100000

state_send : (V : RattleType) (g : Ghosts V.Denot) → IsSend (state.the_row V g)
state_send V g =
    view_send _ _ _ _ _
    (recorded_send (Struct (shape (state_inside.the_type V g))) _ _ (state_inside.the_type V g).to_one
    (struct_send (shape (state_inside.the_type V g))
    (search (accepted_send, consensus_send, sendable, crosses) depth 60 fits 20000)))

-- ---- a board and its passes

board_sync : (V : RattleType) (g : Ghosts V.Denot) → IsSync (board.the_row V g)
board_sync V g =
    view_sync _ _ _ _ _
    (recorded_sync (Struct (shape (board_inside.the_type V g))) _ _ (board_inside.the_type V g).to_one
    (struct_sync (shape (board_inside.the_type V g)) (
      search (lock_sync, state_send, sendable, crosses) depth 20,
      (
        search (lock_sync, pool_send, sendable, crosses) depth 20,
        (search (sendable, crosses) depth 20, (search sendable, (search (sendable, crosses), tt))),
      ),
    )))

pass_send : (V : RattleType) (g : Ghosts V.Denot) → IsSend (pass.the_row V g)
pass_send V g =
    view_send _ _ _ _ _
    (recorded_send (Struct (shape (pass_inside.the_type V g))) _ _ (pass_inside.the_type V g).to_one
    (struct_send (shape (pass_inside.the_type V g)) (
      search (turns_send, state_send, sendable, crosses) depth 20,
      (search (turns_send, pool_send, sendable, crosses) depth 20, tt),
    )))

-- ---- a worker

given_sync : IsSync given.the_row
given_sync =
    recorded_sync (Struct (shape given.the_type)) _ _ (given.the_type).to_one
    (struct_sync (shape given.the_type) (search (sendable, crosses) depth 120 fits 100000))

keeper_send : (b c : NamedLft) (N L : RattleType) → IsSend N → IsSend L
    → IsSend (Struct (shape (keeper.the_type b c N L)))
keeper_send b c N L n l = struct_send (shape (keeper.the_type b c N L)) (search (sendable, crosses) depth 20)

pub attendant_send : (a b c : NamedLft) (H W F C V N L : RattleType) (g : Ghosts V.Denot) → IsSync H → IsSync W → IsSync F
    → IsSend C → IsSend V → IsSend N → IsSend L → IsSend (attendant.the_row a b c H W F C V N L g)
attendant_send a b c H W F C V N L g h w f k v n l =
    recorded_send (Struct (shape (attendant.the_type a b c H W F C V N L g))) _ _
    (attendant.the_type a b c H W F C V N L g).to_one
    (struct_send (shape (attendant.the_type a b c H W F C V N L g)) (
      search sendable,
      (
        search (sendable, crosses),
        (
          search (board_sync, sendable),
          (
            search (sendable, crosses) depth 20,
            (
              search (given_sync, sendable, crosses) depth 20,
              (pass_send V g, (k, (v, (search (keeper_send, sendable, crosses) depth 20, tt)))),
            ),
          ),
        ),
      ),
    ))
