use Rattle.std.proofs.Common.{◌∙◌, ap, ℕ, List}
use Rattle.dir_values.specs.{Numbers.number_of, Versions.{full_stop, front_of, behind, patch_in, version_with}}
use Rattle.dir_values.specs.Versions.{version_by}
use Rattle.dir_values.proofs.tor_version.version_of.Goals as goal

pub returns : goal.returns
returns c =
    let rest = c.after-rest.ensures.value in
    let last = c.after-last.ensures.value ∙ ap (λ (t : List ℕ). behind full_stop t) rest in
    let major = c.number_of-major.ensures ∙ ap (λ (t : List ℕ). number_of t) c.before-2.ensures in
    let minor = c.number_of-minor.ensures ∙ ap (λ (t : List ℕ). number_of t) c.before-3.ensures
    ∙ ap (λ (t : List ℕ). number_of (front_of full_stop t)) rest in
    let micro = c.number_of-micro.ensures ∙ ap (λ (t : List ℕ). number_of t) c.before-4.ensures
    ∙ ap (λ (t : List ℕ). number_of (front_of full_stop t)) last in
    let patch = c.patch_in.ensures ∙ ap (λ (t : List ℕ). patch_in t) last in
    let tag = c.tag_in.ensures in
    c.version_with.ensures ∙ (λ i. version_with (major i) (minor i) (micro i) (patch i) (tag i) c.args.text.now)
    ∙ ap (λ (t : List ℕ). version_by t c.args.text.now) c.before-numbers.ensures
