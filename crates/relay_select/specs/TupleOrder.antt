-- The order of tuples is total, and tuples that tie are one.
use Rattle.std.specs.{Prelude.{◌≡◌, ℕ, ◌<◌, List}, declared.cmp.Ordering.{Ordering, TheVariants.{Less, Equal, Greater}}}
use Rattle.std.{specs.{Cmp.IsTotalOrder, Ordering.{nat_cmp, ordering_then}}, proofs.Common.{ap, refl, sym, ◌∙◌}}
use Rattle.std.proofs.lemmas.Cmp.{nat_cmp_total, nat_list_cmp_total, on_total, then_total, back_total, ranked}
use Rattle.std.proofs.lemmas.Cmp.{by_ranked}
use Rattle.dir_values.{specs.declared.digest.Digest2.Digest2, proofs.VersionOrders.texts_tie}
use Rattle.compute_terms.specs.{Lines.digest_order, Tuples.{Tuple, address_order, tuple_order}}
use Rattle.count_terms.specs.Choosing.{text_order}

address_total : IsTotalOrder address_order
address_total =
    then_total (then_total (on_total (λ (t : Tuple). t.ip) nat_cmp_total) (on_total (λ (t : Tuple). t.or_port) nat_cmp_total)) (on_total (λ (t : Tuple). t.dir_port) nat_cmp_total)

pub tuple_total : IsTotalOrder tuple_order
tuple_total =
    then_total
    (then_total
    (then_total (on_total (λ (t : Tuple). t.published) nat_cmp_total) (back_total (on_total (λ (t : Tuple). t.digest.0) nat_list_cmp_total)))
    (back_total (on_total (λ (t : Tuple). t.nickname) nat_list_cmp_total)))
    (back_total address_total)

both_orders_are_equal : (o p : Ordering) → ordering_then o p ≡ Equal → (o ≡ Equal) × (p ≡ Equal)
both_orders_are_equal Less p e = cc
both_orders_are_equal Equal p e = (refl, e)
both_orders_are_equal Greater p e = cc

numbers_tie : (a b : ℕ) → nat_cmp a b ≡ Equal → a ≡ b
numbers_tie a b e = by_ranked (a < b) (a ≡ b) (b < a) (nat_cmp a b) (ranked a b (nat_cmp a b) refl) (λ l _. absurd (less (sym l ∙ e))) (λ _ same. same) (λ g _. absurd (greater (sym g ∙ e)))
  where
    less : Less ≡ Equal → ⊥
    less h = cc

    greater : Greater ≡ Equal → ⊥
    greater h = cc

-- The parts of two tuples are the same.
record SameParts (a b : Tuple) : Type 0 where
  pub published : a.published ≡ b.published
  pub digest : a.digest.0 ≡ b.digest.0
  pub nickname : a.nickname ≡ b.nickname
  pub ip : a.ip ≡ b.ip
  pub or_port : a.or_port ≡ b.or_port
  pub dir_port : a.dir_port ≡ b.dir_port

parts : (a b : Tuple) → tuple_order a b ≡ Equal → SameParts a b
parts a b e =
    let outer = both_orders_are_equal _ (address_order b a) e in
    let second = both_orders_are_equal _ (text_order b.nickname a.nickname) outer.0 in
    let first = both_orders_are_equal (nat_cmp a.published b.published) (text_order b.digest.0 a.digest.0) second.0 in
    let ports = both_orders_are_equal _ (nat_cmp b.dir_port a.dir_port) outer.1 in
    let address = both_orders_are_equal (nat_cmp b.ip a.ip) (nat_cmp b.or_port a.or_port) ports.0 in
    record {
      published = numbers_tie a.published b.published first.0;
      digest = sym (texts_tie b.digest.0 a.digest.0 first.1);
      nickname = sym (texts_tie b.nickname a.nickname second.1);
      ip = sym (numbers_tie b.ip a.ip address.0);
      or_port = sym (numbers_tie b.or_port a.or_port address.1);
      dir_port = sym (numbers_tie b.dir_port a.dir_port ports.1);
    }

same_tuple : (a b : Tuple) → SameParts a b → a ≡ b
same_tuple a b s = λ i. record {
  digest = record { 0 = s.digest i };
  published = s.published i;
  nickname = s.nickname i;
  ip = s.ip i;
  or_port = s.or_port i;
  dir_port = s.dir_port i;
}

pub tuple_ties : (a b : Tuple) → tuple_order a b ≡ Equal → a ≡ b
tuple_ties a b e = same_tuple a b (parts a b e)

pub digest_total : IsTotalOrder digest_order
digest_total = on_total (λ (d : Digest2). d.0) nat_list_cmp_total

pub digests_tie : (a b : Digest2) → digest_order a b ≡ Equal → a ≡ b
digests_tie a b e = ap (λ (bytes : List ℕ). record { 0 = bytes }) (texts_tie a.0 b.0 e)
