-- What an end answers: one of those who wait after the other is let in, until none of them could join.
use Rattle.std.proofs.Common.{◌≡◌, ℕ, ◌+◌, ◌<◌, ◌≤◌, List, [], ◌∷◌, ◌++◌, map, length, get_or, take, drop, set, Ok, sym, refl, ap, ◌∙◌, subst, arith, below_more}
use Rattle.std.proofs.lemmas.List.{append-nil, append_assoc, map_push, take_more_set, take-set-le, get_or-set_same, get_or-set_other, drop-set-lt, drop-drop, length-take-le, take-take, get_or-take}
use Rattle.paths.specs.Grammar.{Text}
use Rattle.paths.specs.Words.{⊕, ⊖, History}
use Rattle.rooms.specs.declared.entry.Entry.{Entry}
use Rattle.rooms.specs.Entries.{In}
use Rattle.rooms.specs.Rule.{Rule}
use Rattle.run.specs.declared.answer.LetIn.{LetIn}
use Rattle.run.specs.Memory.{View, Account, Matches, account, Distinct, with_end, with_chosen, GoneOut, Admitted, Nobody, Carries}
use Rattle.run.specs.Records.{Record, end, waiting, history, remembered, without_all, letting_in, remembered_chosen}
use Rattle.run.specs.Says.{Choice, Settled, nobody}
use Rattle.run.proofs.Sets.{entry_found, in_without_all, without_all_push, remembered_push}
use Rattle.run.proofs.Steps.{Blind, Sound, step_end, step_chosen, chosen, nobody_joins}

account_same : {xs ys : List Entry} {h k : History} {m q n i j e w : ℕ} → xs ≡ ys → h ≡ k → m ≡ q → i ≡ j →
    ◌≡◌ {A = Account} (record { waiting = xs; history = h; remembered = m; accepted = n; let_in = i; ended = e; withdrawn = w })
    (record { waiting = ys; history = k; remembered = q; accepted = n; let_in = j; ended = e; withdrawn = w })
account_same a b c d = cc

-- one that was let in, as the list has it
abbrev pub listed : Entry → LetIn
listed e = record { ticket = e.ticket; operation = e.operation }

module _ (rule : Rule) (rs : List Record) (a p : ℕ) where
  -- an end that has let in nobody yet
  pub account_end : with_end a (account rule rs) ≡ account rule (end a p [] (Ok 0) ∷ rs)
  account_end = account_same refl (sym (append-nil (history rs ++ (⊖ a ∷ [])))) refl (omega arith)

  -- an end that has let in one more
  account_chosen : (ls : List LetIn) (n : ℕ) (e : Entry) → Distinct (waiting rs) → In e (without_all ls (waiting rs)) →
      with_chosen rule e (account rule (end a p ls (Ok n) ∷ rs)) ≡ account rule (end a p (ls ++ listed e ∷ []) (Ok (n + 1)) ∷ rs)
  account_chosen ls n e d i =
      let xs = waiting rs in
      let same = entry_found e xs d (in_without_all ls e xs i) in
      let hs = history rs ++ (⊖ a ∷ []) in
      account_same
      (sym (without_all_push ls (listed e) xs))
      (append_assoc hs (map (letting_in xs) ls) (⊕ e.operation ∷ []) ∙ ap (λ (z : Entry). hs ++ (map (letting_in xs) ls ++ ⊕ z.operation ∷ [])) (sym same) ∙ ap (λ z. hs ++ z) (sym (map_push (letting_in xs) ls (listed e))))
      (ap (rule.after (remembered_chosen rule ls xs (remembered rule rs))) (sym same) ∙ sym (remembered_push rule ls (listed e) xs (remembered rule rs)))
      (omega arith)

-- the first n of the list are the rule's choices
abbrev pub SoFar : Text → Rule → List Record → ℕ → ℕ → ℕ → List LetIn → Type 0
SoFar t rule rs a p n l = (k : ℕ) → k < n → Choice t rule (end a p (take k l) (Ok k) ∷ rs) (get_or l k nobody)

-- what an end from the memory v has come to with the memory w and the first n of the list
abbrev pub Ending : {R : Type 0} → Rule → View R → View R → ℕ → ℕ → ℕ → List LetIn → Type 0
Ending rule v w a p n l =
    (t : Text) (rs : List Record) → Matches t v (account rule (end a p [] (Ok 0) ∷ rs)) → Matches t w (account rule (end a p (take n l) (Ok n) ∷ rs)) × SoFar t rule rs a p n l

module _ {R : Type 0} (rule : Rule) (blind : Blind rule) (sound : Sound rule) (u : View R) (a p : ℕ) where
  more : (v w : View R) (n : ℕ) (l : List LetIn) (e : Entry) → n < length l → Admitted rule v w e → Ending rule u v a p n l → Ending rule u w a p (n + 1) (set l n (listed e))
  more v w n l e within g going t rs s =
      let x = listed e in
      let (m, far) = going t rs s in
      let rs' = end a p (take n l) (Ok n) ∷ rs in
      let is = chosen t v _ m rule blind sound w e g in
      let one : Choice t rule rs' x = record { entry = e; ticket = refl; operation = refl; chosen = is } in
      let next = subst (Matches t w) (account_chosen rule rs a p (take n l) n e s.distinct ((m.waits e).0 g.left.was)) (step_chosen t v _ m rule w e g is.fits) in (
        subst (λ ls. Matches t w (account rule (end a p ls (Ok (n + 1)) ∷ rs))) (sym (take_more_set l n x within)) next,
        below_more (λ k. Choice t rule (end a p (take k (set l n x)) (Ok k) ∷ rs) (get_or (set l n x) k nobody)) n
            (λ k h. (let ne : k ≡ n → ⊥ = omega arith in
            subst (λ ls. Choice t rule (end a p ls (Ok k) ∷ rs) (get_or (set l n x) k nobody)) (sym (take-set-le k l n x (omega arith)))
            (subst (Choice t rule (end a p (take k l) (Ok k) ∷ rs)) (sym (get_or-set_other l n k x nobody ne)) (far k h))))
            (subst (λ ls. Choice t rule (end a p ls (Ok n) ∷ rs) (get_or (set l n x) n nobody)) (sym (take-set-le n l n x (omega arith)))
            (subst (Choice t rule rs') (sym (get_or-set_same l n x nobody within)) one)),
      )

  -- one more is let in, and put into the list
  pub turn : (v w : View R) (n : ℕ) (l k : List LetIn) (e : Entry) → n < length l → Admitted rule v w e → k ≡ set l n (listed e) → Ending rule u v a p n l → Ending rule u w a p (n + 1) k
  turn v w n l k e within g is going = subst (Ending rule u w a p (n + 1)) (sym is) (more v w n l e within g going)

-- the rest of the list stays
pub rest_turn : (l k old : List LetIn) (n : ℕ) (x : LetIn) → k ≡ set l n x → drop n l ≡ drop n old → drop (n + 1) k ≡ drop (n + 1) old
rest_turn l k old n x is e = ap (drop (n + 1)) is ∙ drop-set-lt (n + 1) l n x (omega arith) ∙ sym (drop-drop 1 n l) ∙ ap (drop 1) e ∙ drop-drop 1 n old

-- what an end has answered once none of those who wait could join
pub ends : {R : Type 0} (places : ℕ) (rule : Rule) (v u w x : View R) (a p n : ℕ) (l : List LetIn) → (a < v.operations) × (0 < get_or v.running a 0) × (length v.entries ≤ p) → a < 64 →
    GoneOut v u a → Ending rule u w a p n l → n ≤ length l → Nobody w → x ≡ w → Carries places rule v x (end a p (take n l) (Ok n))
ends places rule v u w x a p n l (known, some, room) below out going within none same t rs (m, calm) =
    let start = subst (Matches t u) (account_end rule rs a p) (step_end t v _ m u a out below ((m.names a).0 known) some) in
    let (k, far) = going t rs start in
    let long = length-take-le n l within in
    let settled : Settled t (end a p (take n l) (Ok n) ∷ rs) = nobody_joins t w _ k none in (
      (
        (m.names a).0 known,
        (let e = m.each a in omega arith),
        (let e = m.many in omega arith),
        sym long,
        record {
          each = λ i h. (let q : i < n = omega arith in
              subst (λ ls. Choice t rule (end a p ls (Ok i) ∷ rs) (get_or (take n l) i nobody)) (sym (take-take i n l (omega arith)))
              (subst (Choice t rule (end a p (take i l) (Ok i) ∷ rs)) (sym (get_or-take n l i nobody q)) (far i q)));
          all = settled;
        },
      ),
      (subst (λ z. Matches t z (account rule (end a p (take n l) (Ok n) ∷ rs))) (sym same) k, settled),
    )
