-- The answer to a table and the bytes so far, as the doorman's.
use Rattle.std.specs.Prelude.{Result, Ok, Err}
use Rattle.answer.specs.declared.Stop.{Stop}
use Rattle.answer.specs.declared.Stop.TheVariants.{More, Refused}
use Rattle.answer.specs.Answers.{number_of}
use Rattle.profile.specs.declared.Admitted.{Admitted}
use Rattle.profile.specs.Profile.{Admission, more, refused, denied}
use Rattle.profile.specs.Answers.{denial_number, told_admitted}
use Rattle.admission.specs.declared.NotAdmitted.{NotAdmitted}
use Rattle.admission.specs.declared.NotAdmitted.TheVariants.{Stop as Stopped, Denied}

-- "plain verdict accepted, else that answer"
abbrev pub told_stop : Stop → Admission
told_stop (More n) = more n
told_stop (Refused k p) = refused (number_of k) p

abbrev pub told_not : NotAdmitted → Admission
told_not (Stopped e) = told_stop e
told_not (Denied d) = denied (denial_number d)

abbrev pub told_answer : Result Admitted NotAdmitted → Admission
told_answer (Ok a) = told_admitted a
told_answer (Err e) = told_not e
