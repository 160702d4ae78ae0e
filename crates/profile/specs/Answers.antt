-- The code's answers as the profile's.
use Rattle.std.specs.Prelude.{ℕ, Result, Ok, Err}
use Rattle.profile.specs.declared.Denial.{Denial}
use Rattle.profile.specs.declared.Denial.TheVariants.{Version, Kind, Length, UniqueId, Table}
use Rattle.profile.specs.declared.Admitted.{Admitted}
use Rattle.profile.specs.declared.Family.{Family}
use Rattle.profile.specs.declared.Family.TheVariants.{Ip4, Ip6}
use Rattle.profile.specs.declared.Origin.{Origin}
use Rattle.profile.specs.declared.Origin.TheVariants.{Local, Stream, Other}
use Rattle.profile.specs.Profile as Profile
use Rattle.profile.specs.Profile.{Admission, admitted, denied, local, stream, other}

abbrev pub denial_number : Denial → ℕ
denial_number Version = 30
denial_number Kind = 31
denial_number Length = 32
denial_number UniqueId = 33
denial_number Table = 34

abbrev pub told_admitted : Admitted → Admission
told_admitted a = admitted a.level a.length a.start a.size

abbrev pub told_profile : Result Admitted Denial → Admission
told_profile (Ok a) = told_admitted a
told_profile (Err d) = denied (denial_number d)

-- a family's number in the rows of a table
abbrev pub family_number : Family → ℕ
family_number Ip4 = 4
family_number Ip6 = 6

abbrev pub told_origin : Origin → Profile.Origin
told_origin Local = local
told_origin (Stream family) = stream (family_number family)
told_origin Other = other
