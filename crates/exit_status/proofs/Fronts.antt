-- Texts that were written whole or in part.
use Rattle.std.proofs.Common.{◌≡◌, ℕ, ◌+◌, ◌<◌, List, ◌++◌, length, take, drop, get_or, suc, ap, sym, subst, ◌∙◌, Some}
use Rattle.std.proofs.{Common.{None, Option, append_assoc, take_all, arith}, lemmas.List.take-append-drop}
use Rattle.std.proofs.{lemmas.List.{take-append-le, Concat.flat_map-append}, Math.Seq.{drop-cons, take-append-add}}
use Rattle.std.specs.{List.flat_map, Io.KnownBytes.Appends}
use Rattle.dir_bytes.specs.Causes.{Rose}
use Rattle.exit_status.specs.Reports.{Reports}

pub appends_both : (old mid new : Option (List ℕ)) (x y : List ℕ) → Appends old mid x → Appends mid new y → Appends old new (x ++ y)
appends_both None mid new x y a b = tt
appends_both (Some xs) None new x y a b = absurd a
appends_both (Some xs) (Some ys) None x y a b = absurd b
appends_both (Some xs) (Some ys) (Some zs) x y a b = b ∙ ap (λ (l : List ℕ). l ++ y) a ∙ append_assoc xs x y

pub whole : (old new : Option (List ℕ)) (before now : ℕ) (text : List ℕ) → Appends old new text → Reports old new before now text
whole old new before now text h =
    record {
      sent = length text;
      written = subst (λ (t : List ℕ). Appends old new t) (sym (take_all (length text) text (omega arith))) h;
      cause = λ lt. absurd (omega (arith, lt));
    }

-- a part in the middle of the parts
pub split_at : {X : Type 0} (f : X → List ℕ) (xs : List X) (i : ℕ) (d : X) → i < length xs → flat_map f xs ≡ flat_map f (take i xs) ++ (f (get_or xs i d) ++ flat_map f (drop (suc i) xs))
split_at f xs i d lt = ap (λ t. flat_map f t) (sym (take-append-drop i xs)) ∙ flat_map-append f (take i xs) (drop i xs) ∙ ap (λ t. flat_map f (take i xs) ++ flat_map f t) (drop-cons xs i d lt)

pub front : (old mid new : Option (List ℕ)) (before now : ℕ) (start piece rest : List ℕ) (sent : ℕ) → Appends old mid start → Appends mid new (take sent piece) → sent < length piece → Rose before now → Reports old new before now (start ++ (piece ++ rest))
front old mid new before now start piece rest sent a b lt rose =
    let e : take (length start + sent) (start ++ (piece ++ rest)) ≡ start ++ take sent piece = take-append-add start (piece ++ rest) sent ∙ ap (λ (t : List ℕ). start ++ t) (take-append-le sent piece rest (omega arith)) in
    record {
      sent = length start + sent;
      written = subst (λ (t : List ℕ). Appends old new t) (sym e) (appends_both old mid new start (take sent piece) a b);
      cause = λ _. rose;
    }
