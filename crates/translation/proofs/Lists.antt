-- Rows of kinds and of terminals, and the number of a name among them.
use Rattle.std.proofs.Common.{◌≡◌, ℕ, suc, ◌+◌, ◌<◌, ◌≤◌, List, [], ◌∷◌, map, length, get_or, drop, Some, None, sym, refl, ap, ◌∙◌, arith, length-drop}
use lib.ListN.{length-map}
use Rattle.std.proofs.lemmas.List.{drop-map, drop_more, drop_all, drop-drop}
use Rattle.tokens.specs.declared.Kind.{Kind}
use Rattle.tokens.specs.declared.Token.{Token}
use Rattle.tokens.specs.Tokens.{spelling, number_of}
use Rattle.rules.specs.Names.{terminal_of}
use Rattle.translation.specs.declared.text.Source.{Source}
use Rattle.translation.specs.Rows.{kinds_from, front, ahead, terminal, kind_of}
use Rattle.paths.specs.Grammar.{Terminal, word}
use Rattle.std.proofs.lemmas.List.Sums.{prefix_len-le-length}

-- ---- the front of a row
pub front_at : (ts : List Token) (i : ℕ) (d : Token) → i < length ts → front (kinds_from ts i) ≡ Some (get_or ts i d).kind
front_at ts i d h = grind (arith, drop-map (λ (y : Token). y.kind) i ts, drop_more ts i d h)

-- the token at i, whose kind is k
pub kind_front : (ts : List Token) (i : ℕ) (x : Token) (k : Kind) → (i < length ts) × (x ≡ get_or ts i x) → x.kind ≡ k → Some k ≡ front (kinds_from ts i)
kind_front ts i x k at is = grind (arith, front_at ts i x at.0)

pub front_end : (ts : List Token) (i : ℕ) → length ts ≤ i → front (kinds_from ts i) ≡ None
front_end ts i h = grind (arith, drop-map (λ (y : Token). y.kind) i ts, drop_all i ts h)

-- ---- one token on
pub row_inside : (S : Source) (i : ℕ) (k : Terminal) (rest : List Terminal) → ahead S i ≡ k ∷ rest → i < length S.tokens.now
row_inside S i k rest h =
    let e : length (drop i (map (terminal S) S.tokens.now)) ≡ suc (length rest) = ap length h in
    omega (arith, simp (length-drop, length-map) at e)

pub row_next : (ks : List Terminal) (i : ℕ) (k : Terminal) (rest : List Terminal) → drop i ks ≡ k ∷ rest → drop (i + 1) ks ≡ rest
row_next ks i k rest h = sym (drop-drop 1 i ks) ∙ ap (drop 1) h

-- ---- the kinds of a row of terminals
kind_back : (k : Kind) (n : ℕ) → kind_of (terminal_of k n) ≡ k
kind_back k n = grind arith

kinds_back : (S : Source) (ts : List Token) → map (λ (y : Token). y.kind) ts ≡ map kind_of (map (terminal S) ts)
kinds_back S [] = refl
kinds_back S (t ∷ ts) = grind (arith, kind_back t.kind (number_of S.names.text.now S.names.records.now (spelling S.names.text.now t)), kinds_back S ts)

pub kinds_are : (S : Source) (i : ℕ) (row : List Terminal) → ahead S i ≡ row → drop i (map (λ (y : Token). y.kind) S.tokens.now) ≡ map kind_of row
kinds_are S i row h = ap (drop i) (kinds_back S S.tokens.now) ∙ drop-map kind_of i (map (terminal S) S.tokens.now) ∙ ap (map kind_of) h

-- ---- a name's number
word_number : (k : Kind) (m n : ℕ) → terminal_of k m ≡ word n → m ≡ n
word_number k m n e = grind arith

-- the number of the name at i, which is one of the words of the row
pub number_at : (S : Source) (i n : ℕ) (rest : List Terminal) → ahead S i ≡ word n ∷ rest → (x : Token) → x ≡ get_or S.tokens.now i x →
    number_of S.names.text.now S.names.records.now (spelling S.names.text.now x) ≡ n
number_at S i n rest row x at =
    let e : ahead S i ≡ terminal S (get_or S.tokens.now i x) ∷ map (terminal S) (drop (i + 1) S.tokens.now) =
    drop-map (terminal S) i S.tokens.now ∙ ap (map (terminal S)) (drop_more S.tokens.now i x (row_inside S i (word n) rest row)) in
    let g : terminal S (get_or S.tokens.now i x) ≡ word n = cc in
    word_number x.kind _ n (ap (terminal S) at ∙ g)

pub number_small : (S : Source) (w : List ℕ) → number_of S.names.text.now S.names.records.now w ≤ length S.names.records.now
number_small S w = prefix_len-le-length _ S.names.records.now
