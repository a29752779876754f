-- How far a head has come, byte by byte.
use Rattle.std.specs.Prelude.{ℕ, ◌==◌, ◌||◌, Bool, false, List, [], ◌∷◌, if◌then◌else◌}
use Rattle.httparse.specs.Ascii.{carriage_return, line_feed}
use Rattle.dir_http.specs.declared.watch.LineWatch.{LineWatch}
use Rattle.dir_http.specs.declared.watch.LineWatch.TheVariants as watch

-- after the end of a line
abbrev pub after_line : LineWatch → LineWatch
after_line watch.Before = watch.Before
after_line watch.Inside = watch.Between
after_line watch.Between = watch.Between

-- after a byte
abbrev pub state_after : LineWatch → ℕ → LineWatch
state_after state byte =
    if byte == carriage_return then state else if byte == line_feed then after_line state else watch.Inside

-- whether a byte ends an empty line that follows one with a byte
abbrev pub ends_at : LineWatch → ℕ → Bool
ends_at watch.Before byte = false
ends_at watch.Inside byte = false
ends_at watch.Between byte = byte == line_feed

-- after some bytes
abbrev pub run : LineWatch → List ℕ → LineWatch
run state [] = state
run state (byte ∷ bytes) = run (state_after state byte) bytes

-- whether one of the bytes ends such a line
abbrev pub sees_end : LineWatch → List ℕ → Bool
sees_end state [] = false
sees_end state (byte ∷ bytes) = ends_at state byte || sees_end (state_after state byte) bytes
