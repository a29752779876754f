-- Lists of values that a document may have, and that are written and read again (dir-spec, "Vote and consensus status
-- document formats", the `params`, `client-versions`, `server-versions`, `recommended-..-protocols` and
-- `required-..-protocols` lines).
use Rattle.std.specs.{Prelude.{◌≡◌, ℕ, ◌<◌, true, List, All, AllPairs, ℤ, FitsSigned}, Int.w32}
use Rattle.dir_values.specs.FlagSets.{is_name}
use Rattle.list_values.specs.{declared.named.Named.Named, Maps.Ascend, VersionLists.is_version}

-- the param's name has the form of a flag's name, and its number has 32 bits with its sign
pub record IsParamInRange (param : Named ℤ) : Type 0 where
  pub name : is_name param.name ≡ true
  pub number : FitsSigned w32 param.value

-- the params ascend by name, and each is in range
pub record AreParamsInRange (params : List (Named ℤ)) : Type 0 where
  pub ascend : Ascend params
  pub each : All IsParamInRange params

-- the numbers ascend, and each is from 0 to 63
pub record AreNumbersInRange (numbers : List ℕ) : Type 0 where
  pub ascend : AllPairs (λ (earlier later : ℕ). earlier < later) numbers
  pub each : All (λ (number : ℕ). number < 64) numbers

-- the protocol's name has the form of a flag's name, and its numbers are in range
pub record IsProtocolInRange (protocol : Named (List ℕ)) : Type 0 where
  pub name : is_name protocol.name ≡ true
  pub numbers : AreNumbersInRange protocol.value

-- the protocols ascend by name, and each is in range
pub record AreProtocolsInRange (protocols : List (Named (List ℕ))) : Type 0 where
  pub ascend : Ascend protocols
  pub each : All IsProtocolInRange protocols

-- each text is a version
pub record AreVersionsInRange (versions : List (List ℕ)) : Type 0 where
  pub each : All (λ version. is_version version ≡ true) versions
