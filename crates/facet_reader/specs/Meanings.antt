-- The values of the code, as the definition of the language has them.
--     cochain_meant, chain_meant, compute_meant, request_meant, asked_meant     what a line asks for
--     RefusesWord d r, Refuses d r      the refusal r is the fault of the reading d of a word, or of words; want of memory may
--                                       come at any
use Rattle.std.specs.Prelude.{◌≡◌, ℕ, ⊤, Result, Err}
use Rattle.facet_reader.specs.declared.refusal.ReadRefusal.{ReadRefusal}
use Rattle.facet_reader.specs.declared.refusal.ReadRefusal.TheVariants as line
use Rattle.facet_reader.specs.declared.refusal.WordRefusal.{WordRefusal}
use Rattle.facet_reader.specs.declared.refusal.WordRefusal.TheVariants as word
use Rattle.facet_reader.specs.declared.graded.Signs.{Signs}
use Rattle.facet_reader.specs.declared.graded.Graded.{Graded}
use Rattle.facet_reader.specs.declared.graded.Graded.TheVariants as graded
use Rattle.facet_reader.specs.declared.request.CochainWord.{CochainWord}
use Rattle.facet_reader.specs.declared.request.CochainWord.TheVariants as cochain
use Rattle.facet_reader.specs.declared.request.ChainWord.{ChainWord}
use Rattle.facet_reader.specs.declared.request.ChainWord.TheVariants as chain
use Rattle.facet_reader.specs.declared.request.Compute.{Compute}
use Rattle.facet_reader.specs.declared.request.Compute.TheVariants as compute
use Rattle.facet_reader.specs.declared.request.Request.{Request}
use Rattle.facet_reader.specs.declared.request.Request.TheVariants as step
use Rattle.facet_reader.specs.declared.request.Asked.{Asked}
use Rattle.language.specs.declared.fault.FaultKind.{FaultKind}
use Rattle.language.specs.declared.fault.Fault.{Fault}
use Rattle.language.specs.Language as ask
use Rattle.language.specs.Arguments as argument

-- the refusal of a word at a column
abbrev pub refused : ℕ → WordRefusal → ReadRefusal
refused column (word.Bad k) = line.Bad (record { column = column; kind = k })
refused column word.Memory = line.Memory

abbrev pub RefusesWord : {A : Type 0} → Result A FaultKind → WordRefusal → Type 0
RefusesWord d (word.Bad k) = d ≡ Err k
RefusesWord d word.Memory = ⊤

abbrev pub Refuses : {A : Type 0} → Result A Fault → ReadRefusal → Type 0
Refuses d (line.Bad b) = d ≡ Err b
Refuses d line.Memory = ⊤

abbrev pub signs_meant : Signs → argument.Signs
signs_meant s = record { left = s.left; right = s.right; mark = s.mark }

abbrev pub graded_meant : Graded → argument.Graded
graded_meant (graded.Literal p simplices) = argument.Literal p simplices
graded_meant (graded.Numbered p numbers) = argument.Numbered p numbers

abbrev pub cochain_meant : CochainWord → ask.CochainWord
cochain_meant (cochain.Literal p simplices) = ask.CochainWord.Literal p simplices
cochain_meant (cochain.Classes p numbers) = ask.CochainWord.Classes p numbers

abbrev pub chain_meant : ChainWord → ask.ChainWord
chain_meant (chain.Literal p simplices) = ask.ChainWord.Literal p simplices
chain_meant (chain.Cycles p numbers) = ask.ChainWord.Cycles p numbers

abbrev pub compute_meant : Compute → ask.Compute
compute_meant compute.Count = ask.Count
compute_meant compute.Betti = ask.Betti
compute_meant (compute.KindOf s) = ask.KindOf s
compute_meant (compute.ModelOf s) = ask.ModelOf s
compute_meant (compute.Classes p) = ask.Compute.Classes p
compute_meant (compute.Show a) = ask.Show (cochain_meant a)
compute_meant (compute.ShowChain c) = ask.ShowChain (chain_meant c)
compute_meant (compute.Delta a) = ask.Delta (cochain_meant a)
compute_meant (compute.Boundary c) = ask.Boundary (chain_meant c)
compute_meant (compute.ClassOf a) = ask.ClassOf (cochain_meant a)
compute_meant (compute.Bound a) = ask.Bound (cochain_meant a)
compute_meant (compute.Cup a b) = ask.Cup (cochain_meant a) (cochain_meant b)
compute_meant (compute.CupI i a b) = ask.CupI i (cochain_meant a) (cochain_meant b)
compute_meant (compute.Square k a) = ask.Square k (cochain_meant a)
compute_meant (compute.Bockstein a) = ask.Bockstein (cochain_meant a)
compute_meant (compute.SameCup a a2 b b2) = ask.SameCup (cochain_meant a) (cochain_meant a2) (cochain_meant b) (cochain_meant b2)
compute_meant (compute.SameSquare k a a2) = ask.SameSquare k (cochain_meant a) (cochain_meant a2)
compute_meant (compute.SameBockstein a a2) = ask.SameBockstein (cochain_meant a) (cochain_meant a2)
compute_meant (compute.Cap a c) = ask.Cap (cochain_meant a) (chain_meant c)
compute_meant compute.Closed = ask.Closed
compute_meant compute.Links = ask.Links
compute_meant compute.Duality = ask.Duality
compute_meant compute.Wu = ask.Wu
compute_meant compute.Sw = ask.Sw
compute_meant (compute.SwNumber parts) = ask.SwNumber parts

abbrev pub request_meant : Request → ask.Request
request_meant step.Blank = ask.Blank
request_meant (step.Attach s) = ask.Attach s
request_meant (step.Facet s) = ask.Facet s
request_meant step.Cut = ask.Cut
request_meant (step.Back version) = ask.Back version
request_meant step.See = ask.See
request_meant (step.After n) = ask.After n
request_meant (step.Hold name) = ask.Hold name
request_meant (step.Take name) = ask.Take name
request_meant (step.Release name) = ask.Release name
request_meant (step.Round n) = ask.Round n
request_meant step.Quit = ask.Quit
request_meant (step.Ask question) = ask.Ask (compute_meant question)

abbrev pub asked_meant : Asked → ask.Asked
asked_meant a = record { caller = a.caller; request = request_meant a.request }
