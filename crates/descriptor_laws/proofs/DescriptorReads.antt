-- What the items of a server descriptor say is in range, by the kinds of their rows.
use Rattle.std.proofs.Common.{◌≡◌, ℕ, ◌<◌, ◌≤◌, ◌^◌, true, List, Option, Some, None, Result, Ok, refl, subst, sym}
use Rattle.std.specs.Prelude.{IfSome}
use Rattle.item_terms.specs.Items.{Item}
use Rattle.dir_bytes.specs.Fields.{address}
use Rattle.dir_values.specs.{Names.is_nickname, Numbers.port_of}
use Rattle.dirdoc_grammar.specs.Writing.{IsLineRest}
use Rattle.frame_terms.specs.{Keywords.same, Sections.row_of, declared.{keyword.Keyword.Keyword, row.Row.Row}}
use Rattle.frame_values.specs.{Arguments.{arguments_of, field, front, next, others}, Fields.span_if, Parts.part}
use Rattle.frame_values.specs.{Values.item_at, declared.found.Span.Span}
use Rattle.frame_values.specs.declared.values.Value.TheVariants as value
use Rattle.frame_laws.proofs.StandingParts.{rest_part}
use Rattle.relay_entries.specs.Fields as of_entries
use Rattle.group_laws.specs.Ranges.{IsAddressInRange}
use Rattle.descriptor_frame.specs.Fields as of_descriptors
use Rattle.descriptor_frame.specs.{Lines.{address_of, router_of, value_at}, Tables.{descriptor_tables, rows}}
use Rattle.descriptor_frame.specs.declared.said.{DescriptorKind.DescriptorKind, RouterLine.RouterLine}
use Rattle.descriptor_frame.specs.declared.said.DescriptorKind.TheVariants as kind
use Rattle.descriptor_frame.specs.declared.said.DescriptorValue.TheVariants as own
use Rattle.descriptor_parts.proofs.DescriptorDocument.{DescriptorTaken, Said}
use Rattle.range_laws.proofs.{ValueTexts.TextIs, RelayReads.{IsAddressAt, IsNickname, address_reads, ip_reads}}
use Rattle.range_laws.proofs.RelayReads.{nickname_reads, port_reads}
use Rattle.row_laws.proofs.{ItemArguments.{IsSound, are_found}, ReadSteps.{ReadAs, next_reads, placed, was_read}}
use Rattle.row_laws.proofs.Saying.{EachStands, Says, Stands, found, of_row}

-- an item of this kind of a descriptor says this
abbrev pub DescriptorSays : List ℕ → DescriptorKind → Said → Type 0
DescriptorSays bytes of v = Says descriptor_tables bytes of v

-- each of these is said by an item
abbrev pub EachDescriptorStands : List ℕ → List DescriptorTaken → Type 0
EachDescriptorStands bytes taken = EachStands descriptor_tables bytes tt taken

-- ---- items by their keywords

-- no section stands inside a descriptor's, so that an item says what the row of its keyword has
pub stands_for : (bytes : List ℕ) (one : DescriptorTaken) (keyword : Keyword) (own_row : Row DescriptorKind)
    → row_of rows keyword ≡ Some own_row → Stands descriptor_tables bytes tt one
    → same one.keyword keyword ≡ true → DescriptorSays bytes own_row.kind one.value
stands_for bytes one keyword own_row there stands named =
    of_row descriptor_tables bytes tt one keyword own_row (λ around begins. absurd (cc begins)) there stands named

pub item_says : (bytes : List ℕ) (P : Said → Type 0) (taken : List DescriptorTaken) (keyword : Keyword)
    (own_row : Row DescriptorKind) → row_of rows keyword ≡ Some own_row
    → ((v : Said) → DescriptorSays bytes own_row.kind v → P v) → EachDescriptorStands bytes taken
    → IfSome (item_at taken keyword) (λ one. P one.value)
item_says bytes P taken keyword own_row there is each =
    by (item_at taken keyword) (found descriptor_tables bytes tt taken keyword each)
  where
    by : (one : Option DescriptorTaken)
        → IfSome one (λ o. Stands descriptor_tables bytes tt o × (same o.keyword keyword ≡ true))
        → IfSome one (λ o. P o.value)
    by None stands = tt
    by (Some one) stands = is one.value (stands_for bytes one keyword own_row there stands.0 stands.1)

-- what is read of an item of a kind it says
said : (P : Said → Type 0) {bytes : List ℕ} (of : DescriptorKind) (v : Said)
    → ((item : Item) → IsSound bytes item → ReadAs P (value_at of item)) → DescriptorSays bytes of v → P v
said P of v reads says =
    was_read P (value_at of says.item) v (reads says.item says.sound) (placed (value_at of says.item) v says.says)

-- ---- the relay

-- each part of a relay's line is one that such a line may have
pub record IsRouter (bytes : List ℕ) (line : RouterLine) : Type 0 where
  pub nickname : is_nickname (part bytes line.nickname) ≡ true
  pub ip : line.ip < 2 ^ 32
  pub or_port : line.or_port ≤ 65535
  pub socks_port : line.socks_port ≤ 65535
  pub dir_port : line.dir_port ≤ 65535

abbrev pub RouterIs : List ℕ → Said → Type 0
RouterIs bytes (value.Own (own.Router line)) = IsRouter bytes line
RouterIs bytes _ = ⊥

abbrev line_made : Span → ℕ → ℕ → ℕ → ℕ → Result RouterLine ℕ
line_made nickname ip or_port socks_port dir_port = Ok (record {
  nickname = nickname;
  ip = ip;
  or_port = or_port;
  socks_port = socks_port;
  dir_port = dir_port;
})

router_reads : (bytes : List ℕ) (item : Item) → IsSound bytes item → ReadAs (IsRouter bytes) (router_of item)
router_reads bytes item sound =
    let a0 = arguments_of item in
    let a1 = others a0 in
    let a2 = others a1 in
    let a3 = others a2 in
    let a4 = others a3 in
    let t0 = front item.place a0 in
    let t1 = front item.place a1 in
    let t2 = front item.place a2 in
    let t3 = front item.place a3 in
    let t4 = front item.place a4 in
    let f0 = field t0 (span_if (is_nickname t0.text) t0) in
    let f1 = field t1 (address t1.text) in
    let f2 = field t2 (port_of t2.text) in
    let f3 = field t3 (port_of t3.text) in
    let f4 = field t4 (port_of t4.text) in
    let m4 = λ (n : Span) (i o s d : ℕ). line_made n i o s d in
    let m3 = λ (n : Span) (i o s : ℕ). next f4 (m4 n i o s) in
    let m2 = λ (n : Span) (i o : ℕ). next f3 (m3 n i o) in
    let m1 = λ (n : Span) (i : ℕ). next f2 (m2 n i) in
    let m0 = λ (n : Span). next f1 (m1 n) in
    let Line : RouterLine → Type 0 = IsRouter bytes in
    let Port : ℕ → Type 0 = λ n. n ≤ 65535 in
    next_reads (IsNickname bytes) Line f0 m0 (nickname_reads bytes item.place a0 (are_found sound)) (λ n is_n.
    next_reads (λ (i : ℕ). i < 2 ^ 32) Line f1 (m1 n) (ip_reads t1) (λ i is_i.
    next_reads Port Line f2 (m2 n i) (port_reads t2) (λ o is_o.
    next_reads Port Line f3 (m3 n i o) (port_reads t3) (λ s is_s.
    next_reads Port Line f4 (m4 n i o s) (port_reads t4) (λ d is_d.
    record { nickname = is_n; ip = is_i; or_port = is_o; socks_port = is_s; dir_port = is_d })))))

pub router_says : {bytes : List ℕ} {v : Said} → DescriptorSays bytes kind.Router v → RouterIs bytes v
router_says {bytes} {v} says =
    said (RouterIs bytes) kind.Router v (λ item sound.
    next_reads (IsRouter bytes) (RouterIs bytes) (router_of item) (λ line. Ok (value.Own (own.Router line)))
    (router_reads bytes item sound) (λ line is. is)) says

-- ---- texts

pub rest_says : {bytes : List ℕ} {v : Said} → DescriptorSays bytes kind.Rest v → TextIs IsLineRest bytes v
rest_says {bytes} {v} says =
    said (TextIs IsLineRest bytes) kind.Rest v (λ item sound.
    subst IsLineRest (sym (rest_part sound.in_place)) sound.rest) says

pub address_says : {bytes : List ℕ} {v : Said} → DescriptorSays bytes kind.Address v → TextIs IsAddressInRange bytes v
address_says {bytes} {v} says =
    said (TextIs IsAddressInRange bytes) kind.Address v (λ item sound.
    next_reads (IsAddressAt bytes) (TextIs IsAddressInRange bytes) (address_of item) (λ text. Ok (value.Text text))
    (address_reads bytes item sound) (λ text is. is)) says
