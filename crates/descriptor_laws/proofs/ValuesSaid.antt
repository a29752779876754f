-- What is read of the rows of a server descriptor.
use Rattle.std.proofs.Common.{◌≡◌, ℕ, ◌+◌, Bool, true, false, List, [], ◌∷◌, ◌++◌, Option, Some, None, Result, refl}
use Rattle.std.proofs.{Common.{sym, ap, subst, ◌∙◌, append_assoc, arith}, lemmas.{Bool.le-leb, List.Elements.All-head}}
use Rattle.std.{proofs.lemmas.List.Elements.{All-tail, filter_map-append}, specs.Prelude.{All, IfSome, IsTrue}}
use Rattle.std.specs.{Prelude.{filter_map, map, option_map, option_and_then, if◌then◌else◌}, Result.result_ok}
use Rattle.std.specs.List.{cons_option}
use Rattle.item_terms.specs.Words.{words_of}
use Rattle.dir_bytes.specs.FieldTexts.{address_text}
use Rattle.dir_values.specs.{Ports.{Ports, are_ranges, port_summary}, declared.policy.Net.{Net, TheVariants.{Star, V4}}}
use Rattle.dir_values.specs.declared.policy.{Net.TheVariants.V6, PolicyItem.PolicyItem}
use Rattle.dir_values.{specs.declared.refusal.ValueRefusal.ValueRefusal, proofs.PortsAgain.ports_again}
use Rattle.dirdoc_grammar.specs.Writers.{is_argument}
use Rattle.descriptor_frame.specs.{Certificates.certificate_of, declared.certificate.EdCert.EdCert}
use Rattle.descriptor_frame.specs.declared.said.{DescriptorKind.DescriptorKind, DescriptorValue.DescriptorValue}
use Rattle.exit_summary.specs.Policies.{is_net}
use Rattle.frame_terms.specs.{Keywords.same, Rows.row, declared.{document.Taken.Taken, keyword.Keyword.Keyword}}
use Rattle.frame_terms.specs.declared.row.Row.{Row}
use Rattle.frame_terms.specs.declared.keyword.Keyword.TheVariants as the
use Rattle.frame_values.specs.{Fields.span, Parts.{bytes_in, part}, Values.{item_at, text_if, text_of_value}}
use Rattle.frame_values.specs.declared.found.Span.{Span}
use Rattle.frame_laws.proofs.{Both.both_hold, Entries.{after_one, all_taken, taken_at}, Places.after_all}
use Rattle.frame_laws.proofs.{Places.all_taken-append, ReadRows.{IsRead, Stand, item_of_row}, RowValues.row_each}
use Rattle.frame_laws.proofs.{RowValues.{text_entry, text_entry_if}, SaidRows.{entries_of, items_at, row_once}}
use Rattle.frame_laws.proofs.{StandingParts.{part_of_part, rest_part, spelled}, Words.words_of-join}
use Rattle.descriptor_doc.specs.{Descriptors.{certificate_in, ports_in, router_in, words_in}, Saying.ItemIf}
use Rattle.descriptor_doc.specs.Saying.{address_if, is_there, object_if, policy_if, policy_of_value}
use Rattle.descriptor_doc.specs.{Saying.router_in as router_said, declared.descriptor.Router.Router}
use Rattle.descriptor_text.specs.Lines.{ports_text, router_text}
use Rattle.descriptor_laws.specs.{Lines.rest_start, Ranges.{IsCertificateInRange, IsItemInRange, IsNetInRange}}
use Rattle.descriptor_laws.proofs.DescriptorRows.{RowOf, Says, Written, certificate_entry, entries_if, family_entry}
use Rattle.descriptor_laws.proofs.DescriptorRows.{key_object, marks_if, policy_entry, ports_entry, router_entry}
use Rattle.descriptor_laws.proofs.DescriptorRows.{row_maybe}

-- ---- rows of one item at most

-- what a value says that stands in no text
pub value_said : {A : Type 0} {limit : ℕ} {bytes : List ℕ} {taken : List (Taken Says)} {place : ℕ}
    (of : ItemIf → Option A) (entry : A → Written) (row : Row DescriptorKind) (value : Option A)
    → of None ≡ None → ((a : A) (p : ℕ) → of (Some (taken_at p (entry a))) ≡ Some a)
    → IsRead limit bytes taken place (row_maybe row entry value) → of (item_at taken row.keyword) ≡ value
value_said of entry row None none some read = ap of (item_of_row read) ∙ none
value_said {A} {limit} {bytes} {taken} {place} of entry row (Some a) none some read =
    ap of (item_of_row read) ∙ some a place

-- where the nickname stands
nickname_there : (bytes : List ℕ) (start : ℕ) (r : Router) → part bytes (span start (router_text r)) ≡ router_text r
    → part bytes (span start r.nickname) ≡ r.nickname
nickname_there bytes start r there =
    let a = r.nickname in
    let back = (32 ∷ address_text r.ip) ++ (32 ∷ ports_text r) in
    let shape : router_text r ≡ a ++ back = append_assoc a (32 ∷ address_text r.ip) (32 ∷ ports_text r) in
    let front : start + 0 ≡ start = omega arith in
    sym (ap (λ (n : ℕ). part bytes (span n a)) front)
    ∙ part_of_part bytes start [] a back (subst (λ (t : List ℕ). part bytes (span start t) ≡ t) shape there)

module _ {limit : ℕ} {bytes : List ℕ} {taken : List (Taken Says)} {place : ℕ} where
  -- a certificate
  pub certificate_said : (row : Row DescriptorKind) (c : Option EdCert) → IfSome c IsCertificateInRange
      → IsRead limit bytes taken place (row_maybe row certificate_entry c)
      → option_and_then (certificate_in bytes) (object_if (item_at taken row.keyword)) ≡ c
  certificate_said row None are read =
      ap (λ (o : ItemIf). option_and_then (certificate_in bytes) (object_if o)) (item_of_row read)
  certificate_said row (Some c) are read =
      ap (λ (o : ItemIf). option_and_then (certificate_in bytes) (object_if o)) (item_of_row read)
      ∙ ap certificate_of (spelled _ read.stand.writable.0.object.bytes read.stand.in_place.0 refl) ∙ are.says

  -- a key as an object
  pub key_object_said : (row : Row DescriptorKind) (object : Option (List ℕ))
      → IsRead limit bytes taken place (row_maybe row (key_object row.keyword) object)
      → option_map (bytes_in bytes) (object_if (item_at taken row.keyword)) ≡ object
  key_object_said row None read =
      ap (λ (o : ItemIf). option_map (bytes_in bytes) (object_if o)) (item_of_row read)
  key_object_said row (Some object) read =
      ap (λ (o : ItemIf). option_map (bytes_in bytes) (object_if o)) (item_of_row read)
      ∙ ap (λ (l : List ℕ). Some l) (spelled object read.stand.writable.0.object.bytes read.stand.in_place.0 refl)

  -- a summary of ports
  pub ports_said : (row : Row DescriptorKind) (ports : Option Ports)
      → IfSome ports (λ one. IsTrue (are_ranges one.ranges))
      → IsRead limit bytes taken place (row_maybe row ports_entry ports)
      → option_and_then (ports_in bytes) (text_if (item_at taken row.keyword)) ≡ ports
  ports_said row None are read =
      ap (λ (o : ItemIf). option_and_then (ports_in bytes) (text_if o)) (item_of_row read)
  ports_said row (Some ports) are read =
      ap (λ (o : ItemIf). option_and_then (ports_in bytes) (text_if o)) (item_of_row read)
      ∙ ap (λ (l : List ℕ). result_ok (port_summary l)) (rest_part read.stand.in_place.0)
      ∙ ap (λ (r : Result Ports ValueRefusal). result_ok r) (ports_again ports are)

  -- a family
  pub family_said : (row : Row DescriptorKind) (relays : Option (List (List ℕ)))
      → IfSome relays (λ one. All (λ relay. is_argument relay ≡ true) one)
      → IsRead limit bytes taken place (row_maybe row family_entry relays)
      → option_map (words_in bytes) (text_if (item_at taken row.keyword)) ≡ relays
  family_said row None are read =
      ap (λ (o : ItemIf). option_map (words_in bytes) (text_if o)) (item_of_row read)
  family_said row (Some relays) are read =
      ap (λ (o : ItemIf). option_map (words_in bytes) (text_if o)) (item_of_row read)
      ∙ ap (λ (l : List ℕ). Some (words_of l)) (rest_part read.stand.in_place.0)
      ∙ ap (λ (l : List (List ℕ)). Some l) (words_of-join relays are)

  -- whether there is an item
  pub mark_said : (row : Row DescriptorKind) (holds : Bool)
      → IsRead limit bytes taken place (record { row = row; entries = marks_if holds })
      → is_there (item_at taken row.keyword) ≡ holds
  mark_said row true read = ap is_there (item_of_row read)
  mark_said row false read = ap is_there (item_of_row read)

  -- the relay
  pub router_is_said : (row : Row DescriptorKind) (r : Router)
      → IsRead limit bytes taken place (row_once row (router_entry r))
      → router_in bytes (router_said (item_at taken row.keyword)) ≡ r
  router_is_said row r read =
      let start = rest_start place the.Router (router_text r) in
      ap (λ (o : ItemIf). router_in bytes (router_said o)) (item_of_row read)
      ∙ ap (λ (name : List ℕ). record {
        nickname = name;
        ip = r.ip;
        or_port = r.or_port;
        socks_port = r.socks_port;
        dir_port = r.dir_port;
      }) (nickname_there bytes start r (rest_part read.stand.in_place.0))

-- ---- any number of addresses

-- where the texts of some items stand
abbrev texts_in : List (Taken Says) → List Span
texts_in taken = filter_map (λ (one : Taken Says). text_of_value one.value) taken

by_keyword : (t : Bool) (one : Taken Says) (taken : List (Taken Says)) (found : List Span) → found ≡ texts_in taken
    → cons_option (if t then text_of_value one.value else None) found
    ≡ texts_in (if t then one ∷ taken else taken)
by_keyword true one taken found is = ap (cons_option (text_of_value one.value)) is
by_keyword false one taken found is = is

-- the addresses are the texts of their keyword's items
addresses_at : (taken : List (Taken Says)) → filter_map address_if taken ≡ texts_in (items_at taken the.OrAddress)
addresses_at [] = refl
addresses_at (one ∷ taken) =
    by_keyword (same one.keyword the.OrAddress) one (items_at taken the.OrAddress) (filter_map address_if taken)
    (addresses_at taken)

texts_there : (limit : ℕ) (bytes : List ℕ) (place : ℕ) (keyword : Keyword) (texts : List (List ℕ))
    → Stand {V = Says} limit bytes place (map (text_entry keyword) texts)
    → map (part bytes) (texts_in (all_taken place (map (text_entry keyword) texts))) ≡ texts
texts_there limit bytes place keyword [] stand = refl
texts_there limit bytes place keyword (text ∷ texts) stand =
    let next = after_one place (text_entry {W = DescriptorValue} keyword text) in
    ap (λ (t : List ℕ). t ∷ map (part bytes) (texts_in (all_taken next (map (text_entry keyword) texts))))
    (rest_part stand.in_place.0)
    ∙ ap (λ (l : List (List ℕ)). text ∷ l)
    (texts_there limit bytes next keyword texts (record { writable = stand.writable.1; in_place = stand.in_place.1 }))

pub addresses_said : {limit : ℕ} {bytes : List ℕ} {taken : List (Taken Says)} {place : ℕ}
    (row : Row DescriptorKind) (texts : List (List ℕ)) → row.keyword ≡ the.OrAddress
    → IsRead limit bytes taken place (row_each row texts)
    → map (part bytes) (filter_map address_if taken) ≡ texts
addresses_said {limit} {bytes} {taken} {place} row texts named read =
    ap (map (part bytes)) (addresses_at taken
    ∙ ap (λ (k : Keyword). texts_in (items_at taken k)) (sym named)
    ∙ ap texts_in read.items)
    ∙ texts_there limit bytes place row.keyword texts read.stand

-- ---- the exit policy

-- no item of these says an item of a policy
abbrev pub AreQuiet : List Written → Type 0
AreQuiet [] = Unit {0}
AreQuiet (entry ∷ entries) = ((p : ℕ) → policy_of_value (entry.value p) ≡ None) × AreQuiet entries

quiet : (place : ℕ) (entries : List Written) → AreQuiet entries → filter_map policy_if (all_taken place entries) ≡ []
quiet place [] are = refl
quiet place (entry ∷ entries) are =
    let next = after_one place entry in
    ap (λ (o : Option PolicyItem). cons_option o (filter_map policy_if (all_taken next entries))) (are.0 place)
    ∙ quiet next entries are.1

-- the same of rows
abbrev pub EachQuiet : List RowOf → Type 0
EachQuiet [] = Unit {0}
EachQuiet (says ∷ rows) = AreQuiet says.entries × EachQuiet rows

pub quiet_rows : (place : ℕ) (rows : List RowOf) → EachQuiet rows
    → filter_map policy_if (all_taken place (entries_of rows)) ≡ []
quiet_rows place [] are = refl
quiet_rows place (says ∷ rows) are =
    let front = all_taken place says.entries in
    let back = all_taken (after_all place says.entries) (entries_of rows) in
    ap (filter_map policy_if) (all_taken-append place says.entries (entries_of rows))
    ∙ filter_map-append policy_if front back
    ∙ ap (λ (l : List PolicyItem). l ++ filter_map policy_if back) (quiet place says.entries are.0)
    ∙ quiet_rows (after_all place says.entries) rows are.1

pub quiet_if : {A : Type 0} (entry : A → Written) (value : Option A)
    → ((a : A) (p : ℕ) → policy_of_value ((entry a).value p) ≡ None) → AreQuiet (entries_if entry value)
quiet_if entry None is = tt
quiet_if entry (Some a) is = both_hold (is a) tt

pub quiet_text : (keyword : Keyword) (text : Option (List ℕ)) → AreQuiet (text_entry_if keyword text)
quiet_text keyword None = tt
quiet_text keyword (Some text) = both_hold (λ p. refl) tt

pub quiet_mark : (holds : Bool) → AreQuiet (marks_if holds)
quiet_mark true = both_hold (λ p. refl) tt
quiet_mark false = tt

pub quiet_each : (keyword : Keyword) (texts : List (List ℕ)) → AreQuiet (map (text_entry keyword) texts)
quiet_each keyword [] = tt
quiet_each keyword (text ∷ texts) = both_hold (λ p. refl) (quiet_each keyword texts)

-- no more bits count than an address has
net_bits : (item : PolicyItem) → IsItemInRange item → is_net item.net ≡ true
net_bits item are = by item.net are.net_is
  where
    by : (net : Net) → IsNetInRange net → is_net net ≡ true
    by Star is = refl
    by (V4 ip bits) is = le-leb bits 32 is.1
    by V6 is = refl

pub policy_said : (place : ℕ) (items : List PolicyItem) → All IsItemInRange items
    → filter_map policy_if (all_taken place (map policy_entry items)) ≡ items
policy_said place [] are = refl
policy_said place (item ∷ items) are =
    let next = after_one place (policy_entry item) in
    let rest = filter_map policy_if (all_taken next (map policy_entry items)) in
    ap (λ (t : Bool). cons_option (if t then Some item else None) rest) (net_bits item (All-head IsItemInRange item items are))
    ∙ ap (λ (l : List PolicyItem). item ∷ l) (policy_said next items (All-tail IsItemInRange item items are))
