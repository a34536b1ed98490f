-- Why a line of requests has no reading.
--     kind_text k     the word of a kind of fault
use Rattle.std.specs.Prelude.{ℕ, List, codes}
use Rattle.language.specs.declared.fault.FaultKind.{FaultKind}
use Rattle.language.specs.declared.fault.FaultKind.TheVariants as kind

abbrev pub kind_text : FaultKind → List ℕ
kind_text kind.Caller = codes "caller"
kind_text kind.Request = codes "request"
kind_text kind.Missing = codes "missing"
kind_text kind.Word = codes "word"
kind_text kind.Number = codes "number"
kind_text kind.Wide = codes "wide"
kind_text kind.Repeat = codes "repeat"
kind_text kind.Extra = codes "extra"
