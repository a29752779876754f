-- The passes of one board.
use Rattle.std.specs.Prelude.{◌≢◌, List, AllPairs}
use Rattle.serve_board.specs.Boards.{Parts}

-- no two of the passes have one number
abbrev pub DifferInNumber : List Parts → Type 0
DifferInNumber passes = AllPairs (λ one other. one.state.number ≢ other.state.number) passes
