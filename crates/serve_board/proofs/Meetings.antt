-- What a closed board leaves.
use Rattle.std.proofs.{Common.{◌≡◌, List, map, subst}, lemmas.List.Elements.{All-same, All-map, All-weaker}}
use Rattle.std.specs.Prelude.{All}
use Rattle.descriptor_doc.specs.declared.descriptor.Descriptor.{Descriptor}
use Rattle.vote_pool.specs.Pools.{Pooled}
use Rattle.period_lock.specs.Turns.{Lock, Knowledge, IsOf, AreOf, EndsIn}
use Rattle.period_terms.specs.declared.{entry.Entry.Entry, state.State.State}
use Rattle.serve_board.specs.Boards.{Locks, Parts, IsAt}

module _ (board : Locks) (passes : List Parts) (at : All (IsAt board) passes) where
  -- the parts of passes of the board are passes of its locks
  pub states_of : (parts : List (Knowledge State Entry)) → parts ≡ map (λ (p : Parts). p.state) passes
      → AreOf board.state parts
  states_of parts is =
      All-same (IsOf board.state) parts (map (λ (p : Parts). p.state) passes) is
      (All-map (IsOf board.state) (λ (p : Parts). p.state) passes
      (All-weaker (IsAt board) (λ (p : Parts). IsOf board.state p.state) (λ p here. here.state) passes at))

  pub pools_of : (parts : List (Knowledge Pooled Descriptor)) → parts ≡ map (λ (p : Parts). p.pool) passes
      → AreOf board.pool parts
  pools_of parts is =
      All-same (IsOf board.pool) parts (map (λ (p : Parts). p.pool) passes) is
      (All-map (IsOf board.pool) (λ (p : Parts). p.pool) passes
      (All-weaker (IsAt board) (λ (p : Parts). IsOf board.pool p.pool) (λ p here. here.pool) passes at))

module _ {T U S X : Type 0} (of : T → U) (stands : U → S → List X → Type 0) (lock : Lock S) where
  -- what a value leaves is what a part of it leaves that stands for the same
  pub ends_as : (parts all : List (Knowledge S X)) (value : T) → parts ≡ all
      → EndsIn (λ t start story. stands (of t) start story) lock parts value → EndsIn stands lock all (of value)
  ends_as parts all value same ends = subst (λ (l : List (Knowledge S X)). EndsIn stands lock l (of value)) same record {
    story = ends.story;
    stands_for = ends.stands_for;
    seen = ends.seen;
    mine = ends.mine;
    whole = ends.whole;
  }
