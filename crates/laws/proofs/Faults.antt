-- What is printed for a text at fault is one.
use Rattle.std.proofs.Common.{◌≡◌, ℕ, cond, ltb, List, ◌∷◌, Some, decimal, sym, refl, ap, ◌∙◌}
use Rattle.tokens.specs.declared.BytesFault.TheVariants.{TooLong, NoToken, LongName}
use Rattle.rules.proofs.Scan.{one_fault}
use Rattle.reading.specs.declared.Limit.TheVariants.{OpenBrackets, OpenBraces, NameOnce, Paths, Names, Occurrences, Brackets}
use Rattle.reading.specs.declared.GrammarFault.TheVariants.{Bytes, Unexpected, Short}
use Rattle.reading.specs.declared.ReadFault.{ReadFault}
use Rattle.reading.specs.declared.ReadFault.TheVariants.{Grammar, Rule, TooFewPlaces}
use Rattle.reading.specs.declared.Stage.{Stage}
use Rattle.reading.specs.declared.Stage.TheVariants as stage
use Rattle.reading.specs.Faults.{fault_number, fault_stage, fault_place}
use Rattle.print.specs.Words.{line_of}
use Rattle.print.specs.Lines.{stage_bytes, place_words, fault_line}
use Rattle.unit.specs.Output.{FaultPrinted}

-- ---- a fault's number and place tell its line
-- the stage of the faults with a number
abbrev stage_of : ℕ → Stage
stage_of n = cond (ltb n 4) stage.Bytes (cond (ltb n 6) stage.Grammar (cond (ltb n 13) stage.Rules stage.Call))

stage_told : (f : ReadFault) → fault_stage f ≡ stage_of (fault_number f)
stage_told (Grammar (Bytes TooLong)) = refl
stage_told (Grammar (Bytes (NoToken p))) = refl
stage_told (Grammar (Bytes (LongName p))) = refl
stage_told (Grammar (Unexpected p)) = refl
stage_told (Grammar (Short p)) = refl
stage_told (Rule OpenBrackets p) = refl
stage_told (Rule OpenBraces p) = refl
stage_told (Rule NameOnce p) = refl
stage_told (Rule Paths p) = refl
stage_told (Rule Names p) = refl
stage_told (Rule Occurrences p) = refl
stage_told (Rule Brackets p) = refl
stage_told TooFewPlaces = refl

one_line : (f g : ReadFault) → fault_number f ≡ fault_number g → fault_place f ≡ fault_place g → fault_line f ≡ fault_line g
one_line f g n p =
    let s : fault_stage f ≡ fault_stage g = stage_told f ∙ ap stage_of n ∙ sym (stage_told g) in
    λ i. line_of (stage_bytes (s i)) (decimal (n i) ∷ place_words (p i))

-- ---- the first fault is one
pub one_fault_printed : (text out out' : List ℕ) → FaultPrinted text out → FaultPrinted text out' → out ≡ out'
one_fault_printed text out out' x y =
    let (before, number, place) = one_fault text x.first.0 y.first.0 (fault_number x.fault) (fault_number y.fault) x.place y.place x.first.1 y.first.1 in
    x.printed ∙ one_line x.fault y.fault number (x.at_place ∙ ap Some place ∙ sym y.at_place) ∙ sym y.printed
