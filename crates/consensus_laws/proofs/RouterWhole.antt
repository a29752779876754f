-- A relay of a consensus is written whole: its rows are those of its table, in another order. What is remembered of it,
-- and what may follow what.
use Rattle.std.{proofs.Common.{◌≡◌, Bool, true, false, List, [], ◌∷◌, Option, Some, None, refl}, specs.Prelude.not}
use Rattle.std.specs.Prelude.{if◌then◌else◌}
use Rattle.dir_values.specs.declared.digest.Digest2.{Digest2}
use Rattle.frame_terms.specs.{Keywords.same, Rows.row, Sections.{keyword_if, lacking_keyword, stands}}
use Rattle.frame_terms.specs.declared.{document.Taken.Taken, row.{Count.TheVariants.{One, Optional}, Row.Row}}
use Rattle.frame_terms.specs.declared.keyword.Keyword.TheVariants as the
use Rattle.frame_values.specs.declared.values.Value.{Value}
use Rattle.frame_laws.proofs.{Both.both_hold, Following.{opener_follows, repeated_follows}, MoreRows.AreInTable}
use Rattle.frame_laws.proofs.{ReadRows.{each_taken, none_lacks}, TableRows.middle_in_table, Passing.EachPasses}
use Rattle.frame_laws.proofs.{RowCounts.counted_once, RowValues.row_if, SaidRows.{are_apart, counted, entries_of}}
use Rattle.frame_laws.proofs.{SaidRows.{row_none, rows_of}, Sections.{rows_in, taken_in}}
use Rattle.relay_entries.specs.declared.said.EntryKind.TheVariants as entry
use Rattle.consensus_terms.specs.{Routers.is_listed, declared.flavour.Flavour.{Flavour, TheVariants.{Ns, Microdesc}}}
use Rattle.consensus_terms.specs.declared.router.{Bandwidth.Bandwidth, Routerline.Routerline}
use Rattle.consensus_frame.specs.{Tables.{consensus_tables, rows}, declared.rows.ConsensusKind.ConsensusKind}
use Rattle.consensus_frame.specs.declared.value.ConsensusValue.{ConsensusValue}
use Rattle.consensus_frame.specs.declared.rows.ConsensusKind.TheVariants as kind
use Rattle.consensus_frame.specs.declared.rows.ConsensusSection.TheVariants as section
use Rattle.consensus_laws.{specs.{Again.IsRouterInRange, Items.p_text}, proofs.AnyOrder.IsWhole}
use Rattle.consensus_laws.proofs.{ConsensusItems.ConsensusRow, ConsensusRows.{Follows, footer_row}, Quiet.is_quiet}
use Rattle.consensus_laws.proofs.{Quiet.{rows_quiet, text_quiet}, RouterRows.{a_row, flags_row, m_entries, m_said}}
use Rattle.consensus_laws.proofs.RouterRows.{rest_row, router_entry, router_row, router_rows, router_said}
use Rattle.consensus_laws.proofs.RouterRows.{router_section, w_entries, w_said}

-- ---- that they are rows of the table

pub router_apart : (flavour : Flavour) (r : Routerline)
    → are_apart (rows_of (rows_in (router_section flavour r))) ≡ true
unfolding same
router_apart Ns r = refl
router_apart Microdesc r = refl

-- the same rows in the order of the table
abbrev table_order : Flavour → Routerline → List ConsensusRow
table_order flavour r =
    row_if a_row r.a ∷ flags_row r.flags ∷ rest_row the.V r.v ∷ rest_row the.Pr r.pr ∷ w_said r.w
    ∷ rest_row the.P (p_text flavour r.p) ∷ m_said flavour r.m
    ∷ row_none (row the.Id Optional (kind.Entry entry.Ed)) ∷ []

in_order : (flavour : Flavour) (r : Routerline)
    → AreInTable (consensus_tables flavour) section.Router (table_order flavour r)
unfolding same
in_order Ns r = middle_in_table (consensus_tables Ns) section.Router router_row (table_order Ns r) [] refl refl refl
in_order Microdesc r =
    middle_in_table (consensus_tables Microdesc) section.Router router_row (table_order Microdesc r) [] refl refl refl

in_table : (flavour : Flavour) (r : Routerline)
    → AreInTable (consensus_tables flavour) section.Router (router_rows flavour r)
in_table flavour r =
    let t = in_order flavour r in
    both_hold t.0 (both_hold t.1.1.1.1.1.1.0 (both_hold t.1.0 (both_hold t.1.1.0 (both_hold t.1.1.1.0 (both_hold t.1.1.1.1.0 (both_hold t.1.1.1.1.1.0
    (both_hold t.1.1.1.1.1.1.1.0 tt)))))))

-- the rows that have to stand
abbrev s_row : Row ConsensusKind
s_row = row the.S One (kind.Entry entry.Flags)

abbrev micro_row : Row ConsensusKind
micro_row = row the.M One kind.MicroDigest

-- which of three is lacking does not hang on their order, where none is
swapped : (r s m : Bool)
    → keyword_if (if not r then Some router_row
    else if not m then Some micro_row else if not s then Some s_row else None) ≡ None
    → keyword_if (if not r then Some router_row
    else if not s then Some s_row else if not m then Some micro_row else None) ≡ None
swapped true true true is = refl
swapped true true false is = absurd cc
swapped true false true is = absurd cc
swapped true false false is = absurd cc
swapped false s m is = absurd cc

in_any_order : (flavour : Flavour) (r : Routerline) (taken : List (Taken (Value ConsensusValue)))
    → lacking_keyword (rows_of (rows_in (router_section flavour r))) taken ≡ None
    → lacking_keyword (rows flavour section.Router) taken ≡ None
in_any_order Ns r taken none = none
in_any_order Microdesc r taken none = swapped (stands the.R taken) (stands the.S taken) (stands the.M taken) none

-- A relay that the flavour lists is written whole.
pub router_whole : (flavour : Flavour) (r : Routerline) → IsRouterInRange flavour r → is_listed flavour r ≡ true
    → IsWhole (consensus_tables flavour) (router_section flavour r)
router_whole flavour r are listed =
    let tables = consensus_tables flavour in
    let part = router_section flavour r in
    let said_ = router_said flavour r are listed in
    let counts = both_hold (counted_once router_row (router_entry flavour r) refl) (counted tables part.middle said_) in
    let apart = router_apart flavour r in
    record {
      in_table = in_table flavour r;
      said = said_;
      apart = apart;
      opens = refl;
      whole = λ place. in_any_order flavour r (taken_in place part)
          (none_lacks (taken_in place part) place (rows_in part) counts (each_taken place (rows_in part) counts apart));
    }

-- ---- of what of it something is remembered

m_quiet : (flavour : Flavour) (digest : Option Digest2) → EachPasses is_quiet (m_entries flavour digest)
m_quiet Ns digest = tt
m_quiet Microdesc None = tt
m_quiet Microdesc (Some digest) = both_hold (λ place. refl) tt

w_quiet : (w : Option Bandwidth) → EachPasses is_quiet (w_entries w)
w_quiet None = tt
w_quiet (Some w) = both_hold (λ place. refl) tt

-- of its items after the first nothing is
pub router_quiet : (flavour : Flavour) (r : Routerline) → EachPasses is_quiet (entries_of (router_rows flavour r))
router_quiet flavour r =
    rows_quiet (router_rows flavour r)
    (both_hold (text_quiet the.A r.a)
    (both_hold (m_quiet flavour r.m)
    (both_hold (both_hold (λ place. refl) tt)
    (both_hold (text_quiet the.V r.v)
    (both_hold (text_quiet the.Pr r.pr)
    (both_hold (w_quiet r.w)
    (both_hold (text_quiet the.P (p_text flavour r.p))
    (both_hold tt tt))))))))

-- ---- what may follow what

module _ (flavour : Flavour) where
  pub router_after_preamble : Follows flavour section.Preamble section.Router router_row
  unfolding same
  router_after_preamble =
      opener_follows (consensus_tables flavour) section.Preamble section.Router router_row refl
      (record { not_here = refl; opens = refl; passes_none = refl; row_there = refl })

  pub router_after_source : Follows flavour section.Source section.Router router_row
  unfolding same
  router_after_source =
      opener_follows (consensus_tables flavour) section.Source section.Router router_row refl
      (record { not_here = refl; opens = refl; passes_none = refl; row_there = refl })

  pub router_next : Follows flavour section.Router section.Router router_row
  unfolding same
  router_next =
      repeated_follows (consensus_tables flavour) section.Router router_row refl
      (record { row_there = refl; not_last = refl; begins_it = refl })

pub footer_after_router : (flavour : Flavour) → Follows flavour section.Router section.Footer footer_row
unfolding same
footer_after_router Ns =
    opener_follows (consensus_tables Ns) section.Router section.Footer footer_row refl
    (record { not_here = refl; opens = refl; passes_none = refl; row_there = refl })
footer_after_router Microdesc =
    opener_follows (consensus_tables Microdesc) section.Router section.Footer footer_row refl
    (record { not_here = refl; opens = refl; passes_none = refl; row_there = refl })
