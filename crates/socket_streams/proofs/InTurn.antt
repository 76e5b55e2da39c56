-- Lists of lists, from the last one of the last list on.
use Rattle.std.proofs.Common.{◌≡◌, ◌∙◌, List, [], ◌∷◌, ◌++◌, map, length, Vec, Global, ap, sym, subst, arith}
use Rattle.std.specs.Prelude.{reverse}
use Rattle.std.proofs.lemmas.List.{append-nil, append_assoc, drop_all, map-append, reverse-append}
use Rattle.job_pool.specs.Lists.{Every, concat}
use Rattle.job_pool.proofs.Lists.{all_snoc}
use Rattle.socket_streams.specs.Sessions.{in_turn}

module _ {A : Type 0} where
  concat_snoc : (lists : List (List A)) (xs : List A) → concat (lists ++ xs ∷ []) ≡ concat lists ++ xs
  concat_snoc [] xs = append-nil xs
  concat_snoc (ys ∷ lists) xs = ap (λ rest. ys ++ rest) (concat_snoc lists xs) ∙ sym (append_assoc ys (concat lists) xs)

  -- those of the last list are the first
  pub in_turn_snoc : (lists : List (List A)) (xs : List A) → in_turn (lists ++ xs ∷ []) ≡ reverse xs ++ in_turn lists
  in_turn_snoc lists xs = ap reverse (concat_snoc lists xs) ∙ reverse-append (concat lists) xs

  -- the last one of them is the first of all
  pub in_turn_last : (lists : List (List A)) (xs : List A) (x : A) → in_turn (lists ++ (xs ++ x ∷ []) ∷ []) ≡ x ∷ in_turn (lists ++ xs ∷ [])
  in_turn_last lists xs x =
      in_turn_snoc lists (xs ++ x ∷ [])
      ∙ ap (λ ys. ys ++ in_turn lists) (reverse-append xs (x ∷ []))
      ∙ ap (λ ys. x ∷ ys) (sym (in_turn_snoc lists xs))

  -- what each of a list has, each has from its end on
  pub all_reverse : (P : A → Type 0) (xs : List A) → Every P xs → Every P (reverse xs)
  all_reverse P [] h = tt
  all_reverse P (x ∷ xs) h = subst (Every P) (sym (reverse-append (x ∷ []) xs)) (all_snoc P (reverse xs) x (all_reverse P xs h.1) h.0)

  -- what each of these lists has, each has in turn
  pub all_in_turn : (P : A → Type 0) (lists : List (List A)) → Every P (concat lists) → Every P (in_turn lists)
  all_in_turn P lists h = all_reverse P (concat lists) h

  abbrev items_of : List (Vec A Global) → List (List A)
  items_of lists = map (λ xs. xs.items) lists

  lists_snoc : (all lists : List (Vec A Global)) (last : Vec A Global) → all ≡ lists ++ last ∷ [] → in_turn (items_of all) ≡ in_turn (items_of lists ++ last.items ∷ [])
  lists_snoc all lists last is = ap (λ ls. in_turn (items_of ls)) is ∙ ap in_turn (map-append (λ (xs : Vec A Global). xs.items) lists (last ∷ []))

  -- the last one of the last list was taken out of it
  pub takes_last : (all lists left : List (Vec A Global)) (last rest : Vec A Global) (one : A) → all ≡ lists ++ last ∷ [] → last.items ≡ rest.items ++ one ∷ [] → left ≡ lists ++ rest ∷ []
      → in_turn (map (λ xs. xs.items) all) ≡ one ∷ in_turn (map (λ xs. xs.items) left)
  takes_last all lists left last rest one at is after =
      lists_snoc all lists last at
      ∙ ap (λ ys. in_turn (items_of lists ++ ys ∷ [])) is
      ∙ in_turn_last (items_of lists) rest.items one
      ∙ ap (λ ys. one ∷ ys) (sym (lists_snoc left lists rest after))

  -- the last list has none
  pub passes_empty : (all lists : List (Vec A Global)) (last : Vec A Global) → all ≡ lists ++ last ∷ [] → length last.items ≡ 0
      → in_turn (map (λ xs. xs.items) lists) ≡ in_turn (map (λ xs. xs.items) all)
  passes_empty all lists last at none =
      ap (λ ys. reverse ys ++ in_turn (items_of lists)) (sym (drop_all 0 last.items (omega (arith, none))))
      ∙ sym (in_turn_snoc (items_of lists) last.items)
      ∙ sym (lists_snoc all lists last at)
