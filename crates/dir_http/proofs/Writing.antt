-- One text written after another.
use Rattle.std.proofs.Common.{◌≡◌, ℕ, ◌+◌, List, ◌++◌, length, take, ap, sym, ◌∙◌, Option, Some, None, append_assoc}
use Rattle.std.{proofs.Math.Seq.take-append-add, specs.Io.KnownBytes.Appends}

pub appends_front : (old mid new : Option (List ℕ)) (head body : List ℕ) (sent : ℕ) → Appends old mid head
    → Appends mid new (take sent body)
    → Appends old new (take (length head + sent) (head ++ body))
appends_front None mid new head body sent a b = tt
appends_front (Some xs) None new head body sent a b = absurd a
appends_front (Some xs) (Some ys) None head body sent a b = absurd b
appends_front (Some xs) (Some ys) (Some zs) head body sent a b =
    b ∙ ap (λ (l : List ℕ). l ++ take sent body) a ∙ append_assoc xs head (take sent body)
    ∙ ap (λ (l : List ℕ). xs ++ l) (sym (take-append-add head body sent))

-- two texts added one after the other
added_twice : (o a b o1 o2 : List ℕ) → o1 ≡ o ++ a → o2 ≡ o1 ++ b → o2 ≡ o ++ (a ++ b)
added_twice o a b o1 o2 first second = second ∙ ap (λ (l : List ℕ). l ++ b) first ∙ append_assoc o a b

-- five texts added one after the other
pub added_five : (o a b c d e o1 o2 o3 o4 o5 : List ℕ) → o1 ≡ o ++ a → o2 ≡ o1 ++ b → o3 ≡ o2 ++ c → o4 ≡ o3 ++ d
    → o5 ≡ o4 ++ e
    → o5 ≡ o ++ (a ++ (b ++ (c ++ (d ++ e))))
added_five o a b c d e o1 o2 o3 o4 o5 e1 e2 e3 e4 e5 =
    added_twice o a (b ++ (c ++ (d ++ e))) o1 o5 e1
    (added_twice o1 b (c ++ (d ++ e)) o2 o5 e2 (added_twice o2 c (d ++ e) o3 o5 e3 (added_twice o3 d e o4 o5 e4 e5)))
