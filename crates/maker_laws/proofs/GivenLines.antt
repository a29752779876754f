-- The lines of a vote that say what was read of a station input are no longer than a line may be.
use Rattle.std.proofs.Common.{◌≡◌, ℕ, List, [], ◌∷◌, ◌++◌, length, Option, Result, Ok, Err, refl, sym, ap, subst, ◌∙◌}
use Rattle.std.{proofs.{Common.{inl, inr}, lemmas.List.Elements.{All-head, All-tail}}, specs.Prelude.{All, codes}}
use Rattle.std.specs.Prelude.{decimal, option_map}
use Rattle.item_terms.specs.{Bytes.space, Items.{Item, items_of}}
use Rattle.dir_bytes.specs.FieldTexts.{address_text, hex_text}
use Rattle.dir_values.specs.declared.digest.Fingerprint.{Fingerprint}
use Rattle.count_terms.specs.declared.newest.Newest.{Newest}
use Rattle.frame_terms.specs.{Documents.{Document, document_of, finish, group}, declared.fault.ReadRefusal.ReadRefusal}
use Rattle.frame_terms.specs.declared.keyword.Keyword.TheVariants as the
use Rattle.frame_values.specs.{Items.{bare, item_if}, Parts.part, Values.{item_at, text_if}}
use Rattle.frame_values.specs.declared.{found.DirSource.DirSource, values.Value.Value}
use Rattle.document_laws.{specs.{Counts.RowsStand, Items.AreItemsIn}, proofs.{Counting.stand_as_often, Taking.are_said}}
use Rattle.row_laws.proofs.Saying.{EachSound, all_sound}
use Rattle.station_input.specs.{Tables.station_tables, declared.frame.StationSection.StationSection}
use Rattle.station_input.specs.declared.{frame_said.StationValue.StationValue, facts.StationFacts.StationFacts}
use Rattle.station_input.specs.{Kept.{kept_with, none_kept}, Reading.{max_station, with_facts}, Saying.source_in}
use Rattle.station_input.specs.declared.frame.StationSection.TheVariants as its
use Rattle.station_input.specs.declared.frame_said.StationValue.TheVariants as own
use Rattle.vote_terms.specs.{ListLines.{lists_in, vote_lists}, declared.facts.VoteFacts.VoteFacts}
use Rattle.station_laws.proofs.KeptLines.{AreSections, StationGroup, StationTaken, facts_in, groups_are, same_facts}
use Rattle.station_laws.proofs.KeptLines.{sections_are}
use Rattle.maker_laws.proofs.{StationKept.{AreFrom, CountsOf}, ItemLines.{EachShort, FitsLine, each_short}}
use Rattle.maker_laws.proofs.{OwnLine.IsShortSource, StandingLines.each_stands_short, GivenLists.HasShortLists}
use Rattle.maker_laws.{proofs.GivenLists.{lists_short, contact_short, source_short}, specs.Lines.GivenLinesAreShort}
use Rattle.maker_laws.specs.Lines.{HasShortLine, SaysAsGiven}
use Rattle.vote_text.specs.Texts.{source_text}

-- ---- all that is read

-- the lines of a vote that says what a station is given are short
record GivesShortLines (station : StationFacts) : Type 0 where
  lists : HasShortLists station.lists
  contact : All HasShortLine (item_if the.Contact station.contact)
  source : (facts : VoteFacts) → SaysAsGiven facts station → HasShortLine (bare the.DirSource (source_text facts))

abbrev rest : List ℕ → Fingerprint → List ℕ → ℕ → ℕ → ℕ → List ℕ
rest n k h i d o =
    n ++ space ∷ hex_text k.0 ++ space ∷ h ++ space ∷ (address_text i ++ space ∷ decimal d ++ space ∷ decimal o)

-- who the authority is, as the vote says it
source_said : (bytes : List ℕ) (source : DirSource) (station : StationFacts) → IsShortSource bytes source
    → station.nickname ≡ part bytes source.nickname → station.identity ≡ source.identity
    → station.address ≡ part bytes source.address → station.ip ≡ source.ip → station.dir_port ≡ source.dir_port
    → station.or_port ≡ source.or_port → (facts : VoteFacts) → SaysAsGiven facts station
    → HasShortLine (bare the.DirSource (source_text facts))
source_said bytes source station short nickname identity address ip dir_port or_port facts says =
    subst (FitsLine (codes "dir-source")) same_rest short
  where
    same_rest : rest (part bytes source.nickname) source.identity (part bytes source.address) source.ip source.dir_port
        source.or_port ≡ source_text facts
    same_rest =
        ap (λ (n : List ℕ). rest n source.identity (part bytes source.address) source.ip source.dir_port source.or_port)
        (sym nickname ∙ sym says.nickname)
        ∙ ap (λ (k : Fingerprint). rest facts.nickname k (part bytes source.address) source.ip source.dir_port
        source.or_port) (sym identity ∙ sym says.identity)
        ∙ ap (λ (h : List ℕ). rest facts.nickname facts.identity h source.ip source.dir_port source.or_port)
        (sym address ∙ sym says.address)
        ∙ ap (λ (i : ℕ). rest facts.nickname facts.identity facts.address i source.dir_port source.or_port)
        (sym ip ∙ sym says.ip)
        ∙ ap (λ (d : ℕ). rest facts.nickname facts.identity facts.address facts.ip d source.or_port)
        (sym dir_port ∙ sym says.dir_port)
        ∙ ap (λ (o : ℕ). rest facts.nickname facts.identity facts.address facts.ip facts.dir_port o)
        (sym or_port ∙ sym says.or_port)

section_short : (bytes : List ℕ) (items : List Item) (taken : List StationTaken) (station : StationFacts)
    → EachSound bytes items → EachShort items → AreItemsIn station_tables its.Station items taken
    → RowsStand station_tables its.Station taken → station.lists ≡ vote_lists bytes (lists_in taken)
    → station.contact ≡ option_map (part bytes) (text_if (item_at taken the.Contact))
    → ((facts : VoteFacts) → IsShortSource bytes (source_in (item_at taken the.Own)) → SaysAsGiven facts station
    → HasShortLine (bare the.DirSource (source_text facts)))
    → GivesShortLines station
section_short bytes items taken station sound short from counts lists contact source =
    let each = each_stands_short bytes items taken sound short from in
    record {
      lists = subst HasShortLists (sym lists) (lists_short bytes taken each);
      contact = subst (λ (c : Option (List ℕ)). All HasShortLine (item_if the.Contact c)) (sym contact)
          (contact_short bytes taken each);
      source = λ facts says. source facts (source_short bytes taken each counts) says;
    }

-- of the section of a station, which stands last
facts_short : (newest : Newest) (bytes : List ℕ) (items : List Item) (groups : List StationGroup)
    (taken : List StationTaken)
    → EachSound bytes items → EachShort items → AreSections groups taken → All (AreFrom items) groups
    → All CountsOf groups → GivesShortLines (facts_in newest bytes groups)
facts_short newest bytes items groups taken sound short (inl is) from counts =
    let one : List StationGroup = group its.Station taken ∷ [] in
    let here = All-head (AreFrom items) (group its.Station taken) []
    (subst (λ (l : List StationGroup). All (AreFrom items) l) is from) in
    let often = All-head CountsOf (group its.Station taken) []
    (subst (λ (l : List StationGroup). All CountsOf l) is counts) in
    let own = source_in (item_at taken the.Own) in
    subst (λ (l : List StationGroup). GivesShortLines (facts_in newest bytes l)) (sym is)
    (section_short bytes items taken (facts_in newest bytes one) sound short here often refl refl
    (λ facts fits says. source_said bytes own (facts_in newest bytes one) fits refl refl refl refl refl refl facts
    says))
facts_short newest bytes items groups taken sound short (inr (inside, is)) from counts =
    let first : StationGroup = group its.Certificate inside in
    let second : StationGroup = group its.Station taken in
    let both : List StationGroup = first ∷ second ∷ [] in
    let all_from = subst (λ (l : List StationGroup). All (AreFrom items) l) is from in
    let all_counts = subst (λ (l : List StationGroup). All CountsOf l) is counts in
    let here = All-head (AreFrom items) second [] (All-tail (AreFrom items) first (second ∷ []) all_from) in
    let often = All-head CountsOf second [] (All-tail CountsOf first (second ∷ []) all_counts) in
    let own = source_in (item_at taken the.Own) in
    subst (λ (l : List StationGroup). GivesShortLines (facts_in newest bytes l)) (sym is)
    (section_short bytes items taken (facts_in newest bytes both) sound short here often refl refl
    (λ facts fits says. source_said bytes own (facts_in newest bytes both) fits refl refl refl refl refl refl facts
    says))

-- ---- the law

station_short : (newest : Newest) (bytes : List ℕ) (station : StationFacts) (used : ℕ)
    → with_facts newest bytes (finish kept_with none_kept (document_of station_tables (length bytes)
    (items_of max_station bytes))) ≡ Ok (station, used) → GivesShortLines station
station_short newest bytes station used is =
    by (document_of station_tables (length bytes) (items_of max_station bytes)) refl is
  where
    by : (read : Result (Document StationSection (Value StationValue)) ReadRefusal)
        → document_of station_tables (length bytes) (items_of max_station bytes) ≡ read
        → with_facts newest bytes (finish kept_with none_kept read) ≡ Ok (station, used) → GivesShortLines station
    by (Err refusal) got e = absurd (cc e)
    by (Ok document) got e =
        let contents = items_of max_station bytes in
        let has = sections_are bytes document got in
        subst GivesShortLines (same_facts (facts_in newest bytes document.groups) station document.used used e)
        (facts_short newest bytes contents.items document.groups has.part.whole.taken (all_sound 0 max_station bytes)
        (each_short 0 max_station bytes) (groups_are document has)
        (are_said station_tables (length bytes) contents document got)
        (stand_as_often station_tables (length bytes) contents document got))

pub given_short : GivenLinesAreShort
given_short newest bytes station used facts read says =
    let short = station_short newest bytes station used read in
    let lists = subst HasShortLists (sym says.lists) short.lists in
    record {
      versions = lists.versions;
      protocols = lists.protocols;
      params = lists.params;
      source = short.source facts says;
      contact = subst (λ (c : Option (List ℕ)). All HasShortLine (item_if the.Contact c)) (sym says.contact)
          short.contact;
    }
