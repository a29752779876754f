-- What is kept of a server descriptor that was written says what the descriptor says.
use Rattle.std.proofs.Common.{◌≡◌, ℕ, ◌+◌, List, [], ◌∷◌, ◌++◌, length, take, drop, Some, refl, sym, ap, ◌∙◌, subst}
use Rattle.std.proofs.{Common.{append_assoc, append-nil, arith, length-append}, lemmas.List.take_at}
use Rattle.std.{proofs.lemmas.List.Elements.{filter-append, filter_map-append}, specs.Prelude.{filter_map, map}}
use Rattle.std.specs.Prelude.{slice_range}
use Rattle.dir_values.specs.declared.policy.PolicyItem.{PolicyItem}
use Rattle.dirdoc_grammar.specs.Writing.{NewItem, items_text}
use Rattle.frame_terms.specs.{Keywords.{same, text_of}, declared.document.Taken.Taken}
use Rattle.frame_terms.specs.declared.keyword.Keyword.TheVariants as the
use Rattle.frame_values.specs.Values.{after_in, item_at, line_end_in}
use Rattle.frame_laws.proofs.{Both.both_hold, Entries.{after_one, all_taken, item_of}, MoreRows.none_before}
use Rattle.frame_laws.proofs.{Places.{after_all, after_all-append, after_all-same, all_taken-append}, ReadRows.AreRead}
use Rattle.frame_laws.proofs.ReadRows.{Each, IsTaken, Stand, all_at, both_stand, each_taken, first_if, item_at-first}
use Rattle.frame_laws.proofs.{ReadRows.{none_at, place_of}, RowCounts.entries_of-append, RowValues.text_entry}
use Rattle.frame_laws.proofs.{RowValues.text_entry_if, SaidRows.{entries_of, items_at, row_once}}
use Rattle.frame_laws.proofs.{StandingParts.{between_stands, front_stands}, WrittenRows.from_place}
use Rattle.descriptor_doc.specs.{Descriptors.{ed_signed_part, signed_part, through_space, whole_part}, Heads.head_of}
use Rattle.descriptor_doc.specs.{Reading.max_descriptor, Saying.{ItemIf, policy_if}}
use Rattle.descriptor_doc.specs.declared.descriptor.{Descriptor.Descriptor, EdSignature.EdSignature}
use Rattle.descriptor_text.specs.Texts.{descriptor_text}
use Rattle.descriptor_laws.specs.{Again.{ed_signed_text, signed_text, unsigned_items}, Ranges.{AreBytes, SaysInRange}}
use Rattle.descriptor_laws.proofs.DescriptorRead.{all_of_it, back_all, back_all_counted, back_apart, back_lacks}
use Rattle.descriptor_laws.proofs.DescriptorRead.{back_place, before_last, front_all, front_counted, front_each}
use Rattle.descriptor_laws.proofs.DescriptorRead.{front_lacks, front_taken, last_place, last_taken, none_of_last}
use Rattle.descriptor_laws.proofs.DescriptorRead.{of_policy, others, policy_entries, policy_place, policy_rows}
use Rattle.descriptor_laws.proofs.{DescriptorRead.policy_taken, DescriptorRows.{Says, Written, back_rows}}
use Rattle.descriptor_laws.proofs.DescriptorRows.{certificate_entry, ed_signature_entry, family_entry, entries_if}
use Rattle.descriptor_laws.proofs.DescriptorRows.{key_object, groups_entry, hibernating_entry, key_entry, last_row}
use Rattle.descriptor_laws.proofs.DescriptorRows.{marks_if, policy_entry, ports_entry, router_entry, signature_entry}
use Rattle.descriptor_laws.proofs.{DescriptorRows.uptime_entry, DescriptorSame.{descriptor_same, entries}}
use Rattle.descriptor_laws.proofs.{DescriptorSame.{unsigned_entries, unsigned_same}, DescriptorTexts.ed_back}
use Rattle.descriptor_laws.proofs.DescriptorTexts.{ed_front, ed_parts, front_text, last_begins, last_object}
use Rattle.descriptor_laws.proofs.{DescriptorTexts.{signed_length, whole_parts}, Mixed.{each_stands, none_of_both}}
use Rattle.descriptor_laws.proofs.{Mixed.{none_of_mixed, none_of_others, taken_among}, ValuesSaid.EachQuiet}
use Rattle.descriptor_laws.proofs.ValuesSaid.{policy_said, quiet_each, quiet_if, quiet_mark, quiet_rows, quiet_text}

-- ---- what its rows have of it

-- what is taken of the last rows
abbrev back_taken : Descriptor → List (Taken Says)
back_taken d = all_taken (back_place d) (entries_of (back_all d))

-- its items, in three parts
parts_same : (d : Descriptor)
    → entries d ≡ entries_of (front_all d) ++ (policy_entries d ++ entries_of (back_all d))
parts_same d =
    let last : List Written = signature_entry d ∷ [] in
    let back = entries_of (back_rows d) in
    append_assoc (entries_of (front_all d)) (policy_entries d ++ back) last
    ∙ ap (λ (l : List Written). entries_of (front_all d) ++ l) (append_assoc (policy_entries d) back last)
    ∙ ap (λ (l : List Written). entries_of (front_all d) ++ (policy_entries d ++ l))
    (sym (entries_of-append (back_rows d) (row_once last_row (signature_entry d) ∷ [])))

-- no row but its own says an item of its exit policy
front_quiet : (d : Descriptor) → EachQuiet (front_all d)
front_quiet d =
    both_hold (both_hold (λ p. refl) tt)
    (both_hold (quiet_if certificate_entry d.identity_ed25519 (λ a p. refl))
    (both_hold (quiet_if (key_entry the.MasterKeyEd25519) d.master_key_ed25519 (λ a p. refl))
    (both_hold (quiet_text the.Platform d.platform)
    (both_hold (both_hold (λ p. refl) tt)
    (both_hold (quiet_if groups_entry d.fingerprint (λ a p. refl))
    (both_hold (quiet_if uptime_entry d.uptime (λ a p. refl))
    (both_hold (both_hold (λ p. refl) tt)
    (both_hold (quiet_if hibernating_entry d.hibernating (λ a p. refl))
    (both_hold (quiet_if (key_object the.OnionKey) d.onion_key (λ a p. refl))
    (both_hold (both_hold (λ p. refl) tt)
    (both_hold (quiet_if (key_entry the.NtorOnionKey) d.ntor_onion_key (λ a p. refl)) tt)))))))))))

back_quiet : (d : Descriptor) → EachQuiet (back_all d)
back_quiet d =
    both_hold (quiet_if ports_entry d.ipv6_policy (λ a p. refl))
    (both_hold (quiet_if family_entry d.family (λ a p. refl))
    (both_hold (quiet_each the.OrAddress d.or_addresses)
    (both_hold (quiet_mark d.tunnelled_dir_server)
    (both_hold (quiet_text the.Proto d.proto)
    (both_hold (quiet_text the.Contact d.contact)
    (both_hold (quiet_if ed_signature_entry d.router_sig_ed25519 (λ a p. refl))
    (both_hold (both_hold (λ p. refl) tt) tt)))))))

module _ (d : Descriptor) (are : SaysInRange d) where
  -- all that is taken
  abbrev taken : List (Taken Says)
  taken = all_of_it d are

  taken_parts : taken ≡ front_taken d ++ (policy_taken d ++ back_taken d)
  taken_parts =
      sym (all_taken-append 0 (router_entry d.router ∷ others d) (signature_entry d ∷ []))
      ∙ ap (all_taken 0) (parts_same d)
      ∙ all_taken-append 0 (entries_of (front_all d)) (policy_entries d ++ entries_of (back_all d))
      ∙ ap (λ (l : List (Taken Says)). front_taken d ++ l)
      (all_taken-append (policy_place d) (policy_entries d) (entries_of (back_all d)))

  front_in_it : Each (IsTaken taken) 0 (front_all d)
  front_in_it =
      let lacks = front_lacks d in
      subst (λ (l : List (Taken Says)). Each (IsTaken l) 0 (front_all d)) (sym taken_parts)
      (taken_among [] (front_taken d) (policy_taken d ++ back_taken d) 0 (front_all d) (front_each d are)
      (none_before (front_all d))
      (none_of_both (policy_taken d) (back_taken d) (front_all d)
      (none_of_mixed policy_entry policy_rows (policy_place d) (front_all d) d.policy of_policy lacks.0)
      (none_of_others (back_place d) (front_all d) (back_all d) (back_all_counted d are) lacks.1)))

  back_in_it : Each (IsTaken taken) (back_place d) (back_all d)
  back_in_it =
      let lacks = back_lacks d in
      let whole : taken ≡ (front_taken d ++ policy_taken d) ++ (back_taken d ++ []) =
      taken_parts ∙ sym (append_assoc (front_taken d) (policy_taken d) (back_taken d))
      ∙ ap (λ (l : List (Taken Says)). (front_taken d ++ policy_taken d) ++ l) (sym (append-nil (back_taken d))) in
      subst (λ (l : List (Taken Says)). Each (IsTaken l) (back_place d) (back_all d)) (sym whole)
      (taken_among (front_taken d ++ policy_taken d) (back_taken d) [] (back_place d) (back_all d)
      (each_taken (back_place d) (back_all d) (back_all_counted d are) (back_apart d))
      (none_of_both (front_taken d) (policy_taken d) (back_all d)
      (none_of_others 0 (back_all d) (front_all d) (front_counted d are) lacks.1)
      (none_of_mixed policy_entry policy_rows (policy_place d) (back_all d) d.policy of_policy lacks.0))
      (none_before (back_all d)))

  -- its last item
  pub last_is : item_at taken the.RouterSignature ≡ Some (last_taken d)
  last_is =
      let front = before_last d are in
      let one = last_taken d in
      item_at-first taken the.RouterSignature
      ∙ ap first_if (filter-append (λ (other : Taken Says). same other.keyword the.RouterSignature) front (one ∷ [])
      ∙ ap (λ (l : List (Taken Says)). l ++ items_at (one ∷ []) the.RouterSignature)
      (none_at the.RouterSignature front (none_of_last d are))
      ∙ all_at (last_place d) last_row (signature_entry d ∷ []) (both_hold refl tt))

  -- the items of its exit policy
  pub policy_is : filter_map policy_if taken ≡ d.policy
  policy_is =
      ap (filter_map policy_if) taken_parts
      ∙ filter_map-append policy_if (front_taken d) (policy_taken d ++ back_taken d)
      ∙ ap (λ (l : List PolicyItem). l ++ filter_map policy_if (policy_taken d ++ back_taken d))
      (quiet_rows 0 (front_all d) (front_quiet d))
      ∙ filter_map-append policy_if (policy_taken d) (back_taken d)
      ∙ ap (λ (l : List PolicyItem). filter_map policy_if (policy_taken d) ++ l)
      (quiet_rows (back_place d) (back_all d) (back_quiet d))
      ∙ append-nil (filter_map policy_if (policy_taken d))
      ∙ policy_said (policy_place d) d.policy are.policy

-- ---- where its signatures stand

-- the item of the Ed25519 signature begins where the items before both signatures end
pub ed_begins : (d : Descriptor)
    → place_of (back_place d) the.RouterSigEd25519 (back_all d) ≡ length (items_text (unsigned_items d))
unfolding same
ed_begins d =
    let i = entries_if ports_entry d.ipv6_policy in
    let f = entries_if family_entry d.family in
    let a : List Written = map (text_entry the.OrAddress) d.or_addresses in
    let m = marks_if d.tunnelled_dir_server in
    let p : List Written = text_entry_if the.Proto d.proto in
    let c : List Written = text_entry_if the.Contact d.contact in
    let front = entries_of (front_all d) in
    let policy = policy_entries d in
    let zero : 0 + length (items_text (map item_of (unsigned_entries d)))
    ≡ length (items_text (map item_of (unsigned_entries d))) = omega arith in
    sym (after_all-append 0 front (policy ++ (i ++ (f ++ (a ++ (m ++ (p ++ c))))))
    ∙ after_all-append (policy_place d) policy (i ++ (f ++ (a ++ (m ++ (p ++ c)))))
    ∙ after_all-append (back_place d) i (f ++ (a ++ (m ++ (p ++ c))))
    ∙ after_all-append (after_all (back_place d) i) f (a ++ (m ++ (p ++ c)))
    ∙ after_all-append (after_all (after_all (back_place d) i) f) a (m ++ (p ++ c))
    ∙ after_all-append (after_all (after_all (after_all (back_place d) i) f) a) m (p ++ c)
    ∙ after_all-append (after_all (after_all (after_all (after_all (back_place d) i) f) a) m) p c)
    ∙ after_all-same 0 (unsigned_entries d) ∙ zero
    ∙ ap (λ (l : List NewItem). length (items_text l)) (unsigned_same d)

-- What was taken of the descriptor says what it says, where its items stand in its text, whatever follows.
module _ (d : Descriptor) (are : SaysInRange d) (rest : List ℕ)
    (stand : Stand max_descriptor (descriptor_text d ++ rest) 0 (entries d)) where
  abbrev bytes : List ℕ
  bytes = descriptor_text d ++ rest

  abbrev found : List (Taken Says)
  found = all_of_it d are

  pub front_read : AreRead max_descriptor bytes found 0 (front_all d)
  front_read =
      let parts = both_stand max_descriptor bytes 0 (entries_of (front_all d)) (policy_entries d ++ entries_of (back_all d))
      (subst (λ (l : List Written). Stand max_descriptor bytes 0 l) (parts_same d) stand) in
      record { each = each_stands max_descriptor bytes found 0 (front_all d) (front_in_it d are) parts.front }

  pub back_read : AreRead max_descriptor bytes found (back_place d) (back_all d)
  back_read =
      let parts = both_stand max_descriptor bytes 0 (entries_of (front_all d)) (policy_entries d ++ entries_of (back_all d))
      (subst (λ (l : List Written). Stand max_descriptor bytes 0 l) (parts_same d) stand) in
      let behind = both_stand max_descriptor bytes (policy_place d) (policy_entries d) (entries_of (back_all d)) parts.back in
      record { each = each_stands max_descriptor bytes found (back_place d) (back_all d) (back_in_it d are) behind.back }

  -- it begins with its first item
  begins_at : (head_of found).begin ≡ 0
  unfolding same
  begins_at = refl

  -- it ends where its text ends
  pub ends_at : after_one (last_place d) (signature_entry d) ≡ length (descriptor_text d)
  ends_at =
      let zero : 0 + length (items_text (map item_of (entries d))) ≡ length (items_text (map item_of (entries d))) =
      omega arith in
      sym (after_all-append 0 (router_entry d.router ∷ others d) (signature_entry d ∷ []))
      ∙ after_all-same 0 (entries d) ∙ zero ∙ ap (λ (l : List NewItem). length (items_text l)) (descriptor_same d)

  -- its bytes are its text
  pub whole_is : whole_part bytes (head_of found) ≡ descriptor_text d
  whole_is =
      let zero : 0 + length (descriptor_text d) ≡ length (descriptor_text d) = omega arith in
      from_place bytes (head_of found).begin (head_of found).end 0 (descriptor_text d) begins_at
      (ap (λ (o : ItemIf). after_in o) (last_is d are) ∙ ends_at ∙ sym zero) (between_stands [] (descriptor_text d) rest)

  -- its signed text is what stands there
  pub signed_is : signed_part bytes (head_of found) ≡ signed_text d
  signed_is =
      let text = signed_text d in
      let back = last_object d ++ [] in
      let there : take (length (text ++ back)) (drop 0 bytes) ≡ text ++ back =
      subst (λ (l : List ℕ). take (length l) (drop 0 bytes) ≡ l) (whole_parts d) (between_stands [] (descriptor_text d) rest) in
      from_place bytes (head_of found).begin (head_of found).signed_end 0 text begins_at
      (ap (λ (o : ItemIf). line_end_in o) (last_is d are)
      ∙ sums (last_place d) (length (front_text d)) (length (text_of the.RouterSignature ++ [])) (length text)
      (last_begins d) (signed_length d))
      (front_stands bytes text back 0 there)
    where
      sums : (end f k c : ℕ) → end ≡ f → c ≡ f + (k + 1) → end + (k + 1) ≡ 0 + c
      sums end f k c first second = omega (arith, first, second)

  -- and so is what the Ed25519 signature is made over
  pub ed_signed_is : (signature : EdSignature) → d.router_sig_ed25519 ≡ Some signature → AreBytes 64 signature.signature
      → (head_of found).ed_separator ≡ length (ed_front d) → ed_signed_part bytes (head_of found) ≡ ed_signed_text d
  ed_signed_is signature is fits place =
      let front = ed_front d in
      let back = 32 ∷ ed_back d signature in
      let text : descriptor_text d ≡ front ++ back = ed_parts d signature is fits in
      let size : length (descriptor_text d) ≡ length front + length back =
      ap (λ (l : List ℕ). length l) text ∙ length-append front back in
      let whole : bytes ≡ front ++ (back ++ rest) =
      ap (λ (l : List ℕ). l ++ rest) text ∙ append_assoc front back rest in
      let zero : length front ≡ 0 + length front = omega arith in
      let first : slice_range bytes (head_of found).begin (head_of found).ed_separator ≡ front =
      from_place bytes (head_of found).begin (head_of found).ed_separator 0 front begins_at (place ∙ zero)
      (ap (λ (l : List ℕ). take (length front) l) whole ∙ take_at front (back ++ rest) (length front) refl) in
      let second : slice_range bytes (head_of found).ed_separator (head_of found).end ≡ back =
      from_place bytes (head_of found).ed_separator (head_of found).end (length front) back place
      (ap (λ (o : ItemIf). after_in o) (last_is d are) ∙ ends_at ∙ size)
      (ap (λ (l : List ℕ). take (length back) (drop (length front) l)) whole ∙ between_stands front back rest) in
      ap (λ (l : List ℕ). l ++ through_space (slice_range bytes (head_of found).ed_separator (head_of found).end)) first
      ∙ ap (λ (l : List ℕ). front ++ through_space l) second
      ∙ append_assoc (items_text (unsigned_items d)) (text_of the.RouterSigEd25519) (32 ∷ [])
