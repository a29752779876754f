-- No two texts of versions are alike in their order.
use Rattle.std.proofs.{Common.{◌≡◌, ℕ, Bool, true, false, List, [], ◌∷◌, refl, sym, ap, ◌∙◌}, lemmas.Cmp.tied_itself}
use Rattle.std.specs.{Prelude.◌||◌, Cmp.Lexicographic.{slice_cmp, bytes_decides}, declared.cmp.Ordering.Ordering}
use Rattle.std.specs.{declared.cmp.Ordering.TheVariants.{Less, Equal, Greater}, Option.option_cmp, Ordering.nat_cmp}
use Rattle.std.specs.{Ordering.{is_eq, ordering_then}, Str.bytes_eq}
use Rattle.dir_values.{specs.Versions.{version_of, version_order}, proofs.VersionOrders.texts_tie}
use Rattle.field_votes.specs.{VersionKeys.texts_total, Versions.text_order}

last_tie : (o p : Ordering) → ordering_then o p ≡ Equal → p ≡ Equal
last_tie Less p tie = cc
last_tie Equal p tie = tie
last_tie Greater p tie = cc

-- texts that tie are one
pub one_text : (a b : List ℕ) → text_order a b ≡ Equal → a ≡ b
one_text a b tie =
    texts_tie a b (last_tie (option_cmp version_order (version_of a) (version_of b)) (slice_cmp nat_cmp a b) tie)

equal : (o : Ordering) → is_eq o ≡ true → o ≡ Equal
equal Less is = absurd cc
equal Equal is = refl
equal Greater is = absurd cc

-- texts tie exactly where they are one
pub ties_as_one : (text other : List ℕ) → is_eq (text_order text other) ≡ bytes_eq other text
ties_as_one text other = by (is_eq (text_order text other)) (bytes_eq other text) refl refl
  where
    by : (b e : Bool) → is_eq (text_order text other) ≡ b → bytes_eq other text ≡ e → b ≡ e
    by true true is same = refl
    by false false is same = refl
    by true false is same =
        sym ((bytes_decides other text).1 (sym (one_text text other (equal (text_order text other) is)))) ∙ same
    by false true is same =
        sym is ∙ ap is_eq (ap (λ (t : List ℕ). text_order text t) ((bytes_decides other text).0 same)
        ∙ tied_itself texts_total text)
