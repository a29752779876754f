-- Versions and `v` values are in a total order, in which no two are alike.
use Rattle.std.proofs.{Common.{◌≡◌, ℕ, true, List, sym, ap, ◌∙◌}, lemmas.Cmp.{nat_cmp_total, nat_list_cmp_total}}
use Rattle.std.{proofs.lemmas.Cmp.{on_total, then_total, tied_itself}, specs.declared.cmp.Ordering.Ordering}
use Rattle.std.specs.{declared.cmp.Ordering.TheVariants.{Less, Equal, Greater}, Cmp.IsTotalOrder}
use Rattle.std.specs.{Cmp.Lexicographic.{slice_cmp, texts_ties, bytes_decides, options_total}, Option.option_cmp}
use Rattle.std.specs.{Ordering.{nat_cmp, is_eq, ordering_then}, Str.bytes_eq}
use Rattle.dir_values.specs.Versions.{Version, version_order, named_version, named_order}

-- texts that tie by their bytes are one
pub texts_tie : (a b : List ℕ) → slice_cmp nat_cmp a b ≡ Equal → a ≡ b
texts_tie a b tie = (bytes_decides a b).0 (texts_ties a b ∙ ap is_eq tie)

-- versions are in a total order
pub versions_total : IsTotalOrder version_order
versions_total =
    then_total (then_total (then_total (then_total (then_total
    (on_total (λ (v : Version). v.major) nat_cmp_total) (on_total (λ (v : Version). v.minor) nat_cmp_total))
    (on_total (λ (v : Version). v.micro) nat_cmp_total)) (on_total (λ (v : Version). v.patch) nat_cmp_total))
    (on_total (λ (v : Version). v.tag) nat_list_cmp_total)) (on_total (λ (v : Version). v.text) nat_list_cmp_total)

-- `v` values are in a total order
pub named_total : IsTotalOrder named_order
named_total = then_total (on_total named_version (options_total versions_total)) nat_list_cmp_total

last_tie : (o p : Ordering) → ordering_then o p ≡ Equal → p ≡ Equal
last_tie Less p tie = cc
last_tie Equal p tie = tie
last_tie Greater p tie = cc

-- `v` values that tie are one
pub named_tie : (a b : List ℕ) → named_order a b ≡ Equal → a ≡ b
named_tie a b tie = texts_tie a b (last_tie (option_cmp version_order (named_version a) (named_version b)) (slice_cmp nat_cmp a b) tie)

-- `v` values that are one tie
pub same_values_tie : (a b : List ℕ) → bytes_eq a b ≡ true → named_order a b ≡ Equal
same_values_tie a b same = ap (λ (t : List ℕ). named_order a t) (sym ((bytes_decides a b).0 same)) ∙ tied_itself named_total a
