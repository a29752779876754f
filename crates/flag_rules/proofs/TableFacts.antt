-- What follows from the table of flags.
use Rattle.std.proofs.Common.{◌≡◌, ℕ, zero, suc, Bool, true, false, List, [], ◌∷◌, get_or, map, refl, ap, ap₂, ◌∙◌}
use Rattle.std.proofs.{Common.{arith, Some}, lemmas.Bool.{and_parts, and_from, and_left, and_right, not_from_true}}
use Rattle.std.{proofs.lemmas.{Option.slice_get-map, List.Elements.All-map}, specs.Prelude.{◌-◌, ◌==◌, nat_le, not}}
use Rattle.std.specs.{Prelude.{◌&&◌, ◌||◌, filter, if◌then◌else◌}, Option.option_map}
use Rattle.flag_rules.specs.declared.{relay.{RelayFacts.RelayFacts, RuledRelay.RuledRelay}, ruling.Ruling.Ruling}
use Rattle.flag_rules.specs.declared.ruling.Ruling.TheVariants.{Approve, Reject, Invalid, BadExit, MiddleOnly}
use Rattle.flag_rules.specs.declared.{standing.Standing.Standing, thresholds.Thresholds.Thresholds, flags.Flags.Flags}
use Rattle.flag_rules.specs.{Limits.{reached_seconds, most_at_address}, Rulings.{is_reject, is_bad_exit}}
use Rattle.flag_rules.specs.{Rulings.{is_middle_only, same_ruling}, Rules.ruling_for, Standings.is_reached}
use Rattle.flag_rules.specs.Standings.{reached_relays, count_ahead, is_sybil, standing_of, standings_of, is_running}
use Rattle.flag_rules.specs.{Standings.{is_valid, is_active}, Flags.{thresholds_of, is_stable, is_fast, is_directory}}
use Rattle.flag_rules.specs.Flags.{is_sound, is_guard, is_hs_dir, is_exit, sybil_alone, own_flags, flags_with, flags_of}
use Rattle.flag_rules.specs.Laws.{ListsRuleOneWay, RejectedRelaysHaveNoFlags, SybilsHaveNoOtherFlag, FlagsAgree}
use Rattle.flag_rules.specs.Laws.{IsActive, IsSound, Agree}

-- rulings that pass the test are one
one_ruling : (a b : Ruling) → same_ruling a b ≡ true → a ≡ b
one_ruling Approve Approve same = refl
one_ruling Approve Reject same = absurd cc
one_ruling Approve Invalid same = absurd cc
one_ruling Approve BadExit same = absurd cc
one_ruling Approve MiddleOnly same = absurd cc
one_ruling Reject Approve same = absurd cc
one_ruling Reject Reject same = refl
one_ruling Reject Invalid same = absurd cc
one_ruling Reject BadExit same = absurd cc
one_ruling Reject MiddleOnly same = absurd cc
one_ruling Invalid Approve same = absurd cc
one_ruling Invalid Reject same = absurd cc
one_ruling Invalid Invalid same = refl
one_ruling Invalid BadExit same = absurd cc
one_ruling Invalid MiddleOnly same = absurd cc
one_ruling BadExit Approve same = absurd cc
one_ruling BadExit Reject same = absurd cc
one_ruling BadExit Invalid same = absurd cc
one_ruling BadExit BadExit same = refl
one_ruling BadExit MiddleOnly same = absurd cc
one_ruling MiddleOnly Approve same = absurd cc
one_ruling MiddleOnly Reject same = absurd cc
one_ruling MiddleOnly Invalid same = absurd cc
one_ruling MiddleOnly BadExit same = absurd cc
one_ruling MiddleOnly MiddleOnly same = refl

pub rules_one_way : ListsRuleOneWay
rules_one_way rules [] [] are = refl
rules_one_way rules [] (ruling ∷ rulings) are = absurd (omega (arith, are.one_each))
rules_one_way rules (facts ∷ relays) [] are = absurd (omega (arith, are.one_each))
rules_one_way rules (facts ∷ relays) (ruling ∷ rulings) are =
    let d : RuledRelay = record { facts = facts; ruling = ruling } in
    let first : ruling ≡ ruling_for rules facts.identity =
    one_ruling ruling (ruling_for rules facts.identity) (are.of_each zero d (omega arith)) in
    let rest : rulings ≡ map (λ facts. ruling_for rules facts.identity) relays =
    rules_one_way rules relays rulings (record {
      one_each = omega (arith, are.one_each);
      of_each = λ k e lt. are.of_each (suc k) e (omega (arith, lt));
    }) in
    ap₂ (λ (r : Ruling) (l : List Ruling). r ∷ l) first rest

-- a relay that is rejected is not reached
not_reached : (now : ℕ) (facts : RelayFacts) (ruling : Ruling) → is_reject ruling ≡ true
    → is_reached now facts ruling ≡ false
not_reached now facts ruling rejected =
    let others =
    not (facts.measured.reached_at == 0) && nat_le facts.measured.reached_at now
    && nat_le (now - facts.measured.reached_at) reached_seconds && not facts.hibernating in
    and_right others (not (is_reject ruling)) (not_from_true (is_reject ruling) rejected)

rejected_with : (now : ℕ) (least : Thresholds) (relays : List RuledRelay) (relay : RuledRelay)
    → is_reject relay.ruling ≡ true
    → flags_with now least (standing_of now relays relay) ≡ sybil_alone false
rejected_with now least relays relay rejected =
    let standing = standing_of now relays relay in
    let no_sybil : is_sybil now relays relay ≡ false =
    and_left (is_reached now relay.facts relay.ruling)
    (nat_le most_at_address (count_ahead (reached_relays now relays) relay.facts))
    (not_reached now relay.facts relay.ruling rejected) in
    ap (λ (b : Bool). if b || standing.sybil then sybil_alone standing.sybil else own_flags now least standing)
    rejected
    ∙ ap sybil_alone no_sybil

pub rejected_have_none : RejectedRelaysHaveNoFlags
unfolding flags_of
rejected_have_none now relays place relay there rejected =
    let standings = standings_of now relays in
    let least = thresholds_of (filter (is_active now) standings) in
    slice_get-map (flags_with now least) standings place
    ∙ ap (option_map (flags_with now least)) (slice_get-map (standing_of now relays) relays place
    ∙ ap (option_map (standing_of now relays)) there)
    ∙ ap (λ (f : Flags). Some f) (rejected_with now least relays relay rejected)

alone_with : (now : ℕ) (least : Thresholds) (relay : Standing) → (flags_with now least relay).sybil ≡ true
    → flags_with now least relay ≡ sybil_alone true
alone_with now least relay =
    let chosen : Bool → Flags = λ b. if b then sybil_alone relay.sybil else own_flags now least relay in
    let by : (b : Bool) → (chosen b).sybil ≡ true → chosen b ≡ sybil_alone true =
    λ b. elim b as (λ b. (chosen b).sybil ≡ true → chosen b ≡ sybil_alone true) [
      | true ↦ λ is. ap sybil_alone is
      | false ↦ λ is. absurd cc
    ] in
    by (is_reject relay.ruling || relay.sybil)

pub sybils_alone : SybilsHaveNoOtherFlag
unfolding flags_of
sybils_alone now relays =
    let standings = standings_of now relays in
    let least = thresholds_of (filter (is_active now) standings) in
    All-map (λ flags. flags.sybil ≡ true → flags ≡ sybil_alone true) (flags_with now least) standings
    (λ k d lt. alone_with now least (get_or standings k d))

-- no flag but Sybil asks for another
alone_agree : (sybil : Bool) → Agree (sybil_alone sybil)
alone_agree sybil = record {
  fast = λ is. absurd cc;
  stable = λ is. absurd cc;
  v2_dir = λ is. absurd cc;
  exit = λ is. absurd cc;
  guard = λ is. absurd cc;
  hs_dir = λ is. absurd cc;
  middle_only = λ is. absurd cc;
}

middle_is_bad : (ruling : Ruling) → is_middle_only ruling ≡ true → is_bad_exit ruling ≡ true
middle_is_bad Approve is = absurd cc
middle_is_bad Reject is = absurd cc
middle_is_bad Invalid is = absurd cc
middle_is_bad BadExit is = absurd cc
middle_is_bad MiddleOnly is = refl

active_parts : (now : ℕ) (least : Thresholds) (relay : Standing) → is_active now relay ≡ true
    → IsActive (own_flags now least relay)
active_parts now least relay is =
    let parts = and_parts (is_running now relay) (is_valid relay) is in
    record { running = parts.0; valid = parts.1 }

sound_parts : (now : ℕ) (least : Thresholds) (relay : Standing) → is_sound now least relay ≡ true
    → not (is_middle_only relay.ruling) ≡ true → IsSound (own_flags now least relay)
sound_parts now least relay is anywhere =
    let parts = and_parts (is_fast now least relay && is_stable now least relay) (is_directory now relay) is in
    let front = and_parts (is_fast now least relay) (is_stable now least relay) parts.0 in
    record {
      fast = front.0;
      stable = front.1;
      v2_dir = and_from (is_directory now relay) (not (is_middle_only relay.ruling)) parts.1 anywhere;
    }

own_agree : (now : ℕ) (least : Thresholds) (relay : Standing) → Agree (own_flags now least relay)
own_agree now least relay =
    let middle = is_middle_only relay.ruling in
    let active = active_parts now least relay in
    record {
      fast = λ is. active (and_parts (is_active now relay) _ is).0;
      stable = λ is. active (and_parts (is_active now relay) _ is).0;
      v2_dir = λ is. active (and_parts (is_active now relay) _
          (and_parts (is_directory now relay) (not middle) is).0).0;
      exit = λ is. active (and_parts (is_active now relay) _ (and_parts (is_exit now relay) (not middle) is).0).0;
      guard = λ is.
          let parts = and_parts (is_guard now least relay) (not middle) is in
          let uptime = nat_le least.guard_wfu_ppm relay.facts.measured.wfu_ppm in
          let front = and_parts (is_sound now least relay && uptime) _ parts.0 in
          sound_parts now least relay (and_parts (is_sound now least relay) uptime front.0).0 parts.1;
      hs_dir = λ is.
          let parts = and_parts (is_hs_dir now least relay) (not middle) is in
          sound_parts now least relay (and_parts (is_sound now least relay) _ parts.0).0 parts.1;
      middle_only = λ is.
          let nowhere : not middle ≡ false = not_from_true middle is in
          record {
            bad_exit = middle_is_bad relay.ruling is;
            exit = and_right (is_exit now relay) (not middle) nowhere;
            guard = and_right (is_guard now least relay) (not middle) nowhere;
            hs_dir = and_right (is_hs_dir now least relay) (not middle) nowhere;
            v2_dir = and_right (is_directory now relay) (not middle) nowhere;
          };
    }

agree_with : (now : ℕ) (least : Thresholds) (relay : Standing) → Agree (flags_with now least relay)
agree_with now least relay =
    let chosen : Bool → Flags = λ b. if b then sybil_alone relay.sybil else own_flags now least relay in
    let by : (b : Bool) → Agree (chosen b) =
    λ b. elim b as (λ b. Agree (chosen b)) [
      | true ↦ alone_agree relay.sybil
      | false ↦ own_agree now least relay
    ] in
    by (is_reject relay.ruling || relay.sybil)

pub all_agree : FlagsAgree
unfolding flags_of
all_agree now relays =
    let standings = standings_of now relays in
    let least = thresholds_of (filter (is_active now) standings) in
    All-map Agree (flags_with now least) standings (λ k d lt. agree_with now least (get_or standings k d))
