-- Worked cases, from the definitions.
use Rattle.std.proofs.Common.{[], ◌∷◌, codes, refl, lit≤}
use Rattle.tokens.specs.declared.Kind.TheVariants.{Semicolon, BraceOpen, BraceClose, Path, End, Name}
use Rattle.tokens.specs.Tokens.{token}
use Rattle.rules.specs.Rules.{begins_sentence, open_braces, name_once}
use Rattle.rules.specs.Faults.{FirstFault, at_token, at_byte, at_name, at_end_of_text, Cases}
use Rattle.rules.proofs.Decided.{kept, told, sentence_no}

capital : FirstFault (codes "path A end") 2 5
capital = (_, at_byte (lit≤ tt) refl (kept _ refl))

long : FirstFault (codes "path abcdefghijklmnopq end") 3 5
long = (_, at_name (lit≤ tt) refl (kept _ refl))

two_names : FirstFault (codes "path a b end") 4 7
two_names = (token Path 0 4 ∷ token Name 5 1 ∷ [], at_token (token Name 7 1) (token End 9 3 ∷ []) begins_sentence (lit≤ tt) refl (kept _ refl) (told begins_sentence _ refl))

cut_short : FirstFault (codes "path a;") 5 7
cut_short = (_, at_end_of_text (lit≤ tt) refl (kept _ refl) (sentence_no _ refl))

inner_brace : FirstFault (codes "path {a;{b}} end") 7 8
inner_brace = (
  token Path 0 4 ∷ token BraceOpen 5 1 ∷ token Name 6 1 ∷ token Semicolon 7 1 ∷ [],
  at_token (token BraceOpen 8 1) (token Name 9 1 ∷ token BraceClose 10 1 ∷ token BraceClose 11 1 ∷ token End 13 3 ∷ []) open_braces (lit≤ tt) refl (kept _ refl) (told open_braces _ refl),
)

again : FirstFault (codes "path a;a end") 8 7
again = (
  token Path 0 4 ∷ token Name 5 1 ∷ token Semicolon 6 1 ∷ [],
  at_token (token Name 7 1) (token End 9 3 ∷ []) name_once (lit≤ tt) refl (kept _ refl) (told name_once _ refl),
)

pub cases : Cases
cases = (capital, long, two_names, cut_short, inner_brace, again)
