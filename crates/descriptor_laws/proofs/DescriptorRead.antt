-- The items of a server descriptor that was written make a document, whatever follows them.
use Rattle.std.proofs.Common.{◌≡◌, ℕ, Bool, true, false, List, [], ◌∷◌, ◌++◌, length, Option, None, Ok, refl, ap, ◌∙◌}
use Rattle.std.{proofs.lemmas.List.Folds.list_any-append, specs.Prelude.{map, ◌||◌}}
use Rattle.item_terms.specs.{Items.Item, declared.fault.DocFault.DocFault}
use Rattle.dir_values.specs.declared.policy.PolicyItem.{PolicyItem}
use Rattle.dirdoc_grammar.specs.Writing.{all_written, written}
use Rattle.frame_terms.specs.{Decisions.made_by, Documents.{group, read_items, start}, Keywords.same, Rows.row}
use Rattle.frame_terms.specs.{Sections.{lacking_but, stands}, declared.document.Made.TheVariants.{Ends, Pushes}}
use Rattle.frame_terms.specs.declared.{document.Taken.Taken, keyword.Keyword.Keyword, row.Count.TheVariants.One}
use Rattle.frame_terms.specs.declared.keyword.Keyword.TheVariants as the
use Rattle.frame_laws.proofs.{Both.both_hold, Entries.{after_one, all_taken, item_of, taken_at}, Following.first_made}
use Rattle.frame_laws.proofs.{Limits.fits, MoreRows.{NoneStand, none_after, none_before, rows_more, more_both}}
use Rattle.frame_laws.proofs.{Places.{all_taken-append, both_written}, ReadRows.{Each, IsTaken, each_taken, of_row}}
use Rattle.frame_laws.proofs.{ReadRows.place_of, RowValues.moment_entry, Reading.{AreMore, read_on, takes_more}}
use Rattle.frame_laws.proofs.{Remembered.notes_nothing, RowCounts.{counted_both, counted_once}, SaidRows.AreCounted}
use Rattle.frame_laws.proofs.{SaidRows.{counted, entries_of, row_none, row_once}, Steps.{last_of, made_by-later}}
use Rattle.frame_laws.proofs.Steps.{opening}
use Rattle.descriptor_frame.specs.Tables.{descriptor_tables, rows}
use Rattle.descriptor_frame.specs.declared.said.DescriptorKind.TheVariants as kind
use Rattle.descriptor_doc.specs.declared.descriptor.Descriptor.{Descriptor}
use Rattle.descriptor_laws.{specs.Ranges.{IsItemInRange, SaysInRange}, proofs.DescriptorRows.{RowOf, Says, back_rows}}
use Rattle.descriptor_laws.proofs.DescriptorRows.{first_row, front_rows, bandwidth_entry, key_object, last_row}
use Rattle.descriptor_laws.proofs.DescriptorRows.{policy_entry, policy_row, router_entry, signature_entry}
use Rattle.descriptor_laws.proofs.Mixed.{mixed_more, none_of_both, none_of_mixed, none_of_others, stands_once}
use Rattle.descriptor_laws.proofs.RowsSaid.{back_said, front_said, suits_policy, suits_router, suits_signature}
pub use Rattle.descriptor_laws.proofs.DescriptorParts.{back_all, back_apart, back_lacks, back_place, begins_it}
pub use Rattle.descriptor_laws.proofs.DescriptorParts.{behind_in, ends_it, first_taken, front_all, front_apart}
pub use Rattle.descriptor_laws.proofs.DescriptorParts.{front_in, front_lacks, front_taken, last_place, last_taken}
pub use Rattle.descriptor_laws.proofs.DescriptorParts.{middle_apart, middle_in, middle_lacks, middle_plain, of_policy}
pub use Rattle.descriptor_laws.proofs.DescriptorParts.{others, others_taken, policy_entries, policy_in, policy_many}
pub use Rattle.descriptor_laws.proofs.DescriptorParts.{policy_place, policy_rows, policy_taken, second_place}
pub use Rattle.descriptor_laws.proofs.DescriptorParts.{table_apart, whole_middle, whole_with}

module _ (d : Descriptor) (are : SaysInRange d) where
  pub front_counted : AreCounted (front_all d)
  front_counted =
      both_hold (counted_once first_row (router_entry d.router) refl)
      (counted descriptor_tables (front_rows d) (front_said d are))

  pub back_counted : AreCounted (back_rows d)
  back_counted = counted descriptor_tables (back_rows d) (back_said d are)

  pub back_all_counted : AreCounted (back_all d)
  back_all_counted =
      counted_both (back_rows d) (row_once last_row (signature_entry d) ∷ []) back_counted
      (both_hold (counted_once last_row (signature_entry d) refl) tt)

  -- the items after the first are each one more of it
  none_of_back : NoneStand (front_taken d ++ policy_taken d) (back_rows d)
  none_of_back =
      let lacks = middle_lacks d in
      none_of_both (front_taken d) (policy_taken d) (back_rows d)
      (none_of_others 0 (back_rows d) (front_all d) front_counted lacks.1)
      (none_of_mixed policy_entry policy_rows (policy_place d) (back_rows d) d.policy of_policy lacks.0)

  pub more : AreMore descriptor_tables tt (first_taken d) [] None (second_place d) (others d)
  more =
      let one = first_taken d in
      let front = entries_of (front_rows d) in
      let taken = all_taken (second_place d) front in
      let apart = middle_apart d in
      more_both descriptor_tables tt one [] None (second_place d) front (policy_entries d ++ entries_of (back_rows d))
      (rows_more descriptor_tables tt one [] None (second_place d) (front_rows d) (front_in d) (front_said d are) apart.0
      (none_after [] 0 first_row (router_entry d.router ∷ []) (front_rows d) (both_hold refl tt) apart.1
      (none_before (front_rows d))) tt)
      (more_both descriptor_tables tt one taken None (policy_place d) (policy_entries d) (entries_of (back_rows d))
      (mixed_more descriptor_tables tt (λ (item : PolicyItem). policy_row item.accept) policy_entry IsItemInRange
      (λ item. policy_in d item.accept) (λ item. policy_many item.accept) suits_policy one taken (policy_place d) d.policy
      are.policy)
      (rows_more descriptor_tables tt one (taken ++ policy_taken d) None (back_place d) (back_rows d)
      (behind_in d).1.1 (back_said d are) apart.2 none_of_back tt))

  -- ---- what stands before the last

  -- what is taken before the last
  abbrev pub before_last : List (Taken Says)
  before_last = first_taken d ∷ others_taken d

  -- that is what is taken of its parts
  before_parts : before_last ≡ front_taken d ++ (policy_taken d ++ all_taken (back_place d) (entries_of (back_rows d)))
  before_parts =
      all_taken-append 0 (entries_of (front_all d)) (policy_entries d ++ entries_of (back_rows d))
      ∙ ap (λ (l : List (Taken Says)). front_taken d ++ l)
      (all_taken-append (policy_place d) (policy_entries d) (entries_of (back_rows d)))

  pub front_each : Each (IsTaken (front_taken d)) 0 (front_all d)
  front_each = each_taken 0 (front_all d) front_counted (front_apart d)

  -- an item of a first row stands
  front_one_stands : (k : Keyword) → stands k (front_taken d) ≡ true → stands k before_last ≡ true
  front_one_stands k is =
      let test : Taken Says → Bool = λ one. same one.keyword k in
      let behind = policy_taken d ++ all_taken (back_place d) (entries_of (back_rows d)) in
      ap (λ (l : List (Taken Says)). stands k l) before_parts ∙ list_any-append test (front_taken d) behind
      ∙ ap (λ (t : Bool). t || stands k behind) is

  published_there : stands the.Published (front_taken d) ≡ true
  unfolding same
  published_there =
      let place = place_of 0 the.Published (front_all d) in
      let says = row_once (row the.Published One kind.Time) (moment_entry the.Published d.published) in
      stands_once the.Published (front_taken d) (taken_at place (moment_entry the.Published d.published))
      (of_row (IsTaken (front_taken d)) 0 the.Published (front_all d) says front_each refl)

  bandwidth_there : stands the.Bandwidth (front_taken d) ≡ true
  unfolding same
  bandwidth_there =
      let place = place_of 0 the.Bandwidth (front_all d) in
      let says = row_once (row the.Bandwidth One kind.Bandwidth) (bandwidth_entry d.bandwidth) in
      stands_once the.Bandwidth (front_taken d) (taken_at place (bandwidth_entry d.bandwidth))
      (of_row (IsTaken (front_taken d)) 0 the.Bandwidth (front_all d) says front_each refl)

  signing_there : stands the.SigningKey (front_taken d) ≡ true
  unfolding same
  signing_there =
      let place = place_of 0 the.SigningKey (front_all d) in
      let says = row_once (row the.SigningKey One kind.Object) (key_object the.SigningKey d.signing_key) in
      stands_once the.SigningKey (front_taken d) (taken_at place (key_object the.SigningKey d.signing_key))
      (of_row (IsTaken (front_taken d)) 0 the.SigningKey (front_all d) says front_each refl)

  router_there : stands the.Router (front_taken d) ≡ true
  unfolding same
  router_there = refl

  whole : lacking_but rows the.RouterSignature before_last ≡ None
  whole =
      whole_with before_last (front_one_stands the.Router router_there) (front_one_stands the.Published published_there)
      (front_one_stands the.Bandwidth bandwidth_there) (front_one_stands the.SigningKey signing_there)

  -- no last item stands before it
  pub none_of_last : stands the.RouterSignature before_last ≡ false
  none_of_last =
      let lacks = middle_lacks d in
      let last : List RowOf = row_none last_row ∷ [] in
      let back = entries_of (back_rows d) in
      ap (λ (l : List (Taken Says)). stands the.RouterSignature l) before_parts
      ∙ (none_of_both (front_taken d) (policy_taken d ++ all_taken (back_place d) back) last
      (none_of_others 0 last (front_all d) front_counted lacks.4)
      (none_of_both (policy_taken d) (all_taken (back_place d) back) last
      (none_of_mixed policy_entry policy_rows (policy_place d) last d.policy of_policy lacks.3)
      (none_of_others (back_place d) last (back_rows d) back_counted lacks.2))).0

  -- ---- the document

  -- its last item ends it
  last_made : made_by descriptor_tables tt (opening tt before_last None) (written (last_place d) (item_of (signature_entry d)))
      ≡ Ok (Ends (last_taken d))
  last_made =
      let place = last_place d in
      let entry = signature_entry d in
      made_by-later descriptor_tables tt tt (first_taken d) (others_taken d) None place entry
      (fits descriptor_tables tt (first_taken d) (others_taken d) None place entry the.RouterSignature refl tt)
      ∙ last_of descriptor_tables tt (opening tt before_last None) place entry last_row ends_it whole none_of_last
      (suits_signature d tt place)

  -- all that is taken
  abbrev pub all_of_it : List (Taken Says)
  all_of_it = before_last ++ last_taken d ∷ []

  -- its items are a document
  pub document_read : (length : ℕ) (fault : Option DocFault) (items : List Item)
      → read_items descriptor_tables length tt (start descriptor_tables) fault
      (all_written 0 (map item_of (router_entry d.router ∷ (others d ++ signature_entry d ∷ []))) ++ items)
      ≡ Ok (record { groups = group tt all_of_it ∷ []; used = after_one (last_place d) (signature_entry d) })
  document_read length fault items =
      let one = first_taken d in
      let next = second_place d in
      let last = written (last_place d) (item_of (signature_entry d)) in
      let rest = all_written next (map item_of (others d ++ signature_entry d ∷ [])) ++ items in
      read_on descriptor_tables length tt tt (start descriptor_tables) fault (written 0 (item_of (router_entry d.router))) rest
      (Pushes one)
      (first_made descriptor_tables tt 0 (router_entry d.router) first_row begins_it (suits_router d.router are.router tt 0))
      refl
      ∙ ap (λ (l : List Item). read_items descriptor_tables length tt (opening tt (one ∷ []) None) fault l)
      (both_written next (others d) (signature_entry d ∷ []) items)
      ∙ takes_more descriptor_tables length tt tt tt one [] None fault next (others d) (last ∷ items)
      (notes_nothing descriptor_tables (λ across taken. refl) tt (others_taken d)) more
      ∙ read_on descriptor_tables length tt tt (opening tt before_last None) fault last items (Ends (last_taken d)) last_made
      refl
