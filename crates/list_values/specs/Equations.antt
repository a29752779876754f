-- Arguments of the form `name=value`.
use Rattle.std.specs.Prelude.{ℕ, List}
use Rattle.dir_values.specs.Versions.{front_of, behind}

-- `=`, between a name and its value
abbrev pub equals : ℕ
equals = 61

-- what stands before the first `=`
abbrev pub left_side : List ℕ → List ℕ
left_side text = front_of equals text

-- what stands behind it
abbrev pub right_side : List ℕ → List ℕ
right_side text = behind equals text
