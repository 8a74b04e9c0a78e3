-- Two lists whose entries belong together, place by place.
use Rattle.std.specs.Prelude.{ℕ, zero, suc, ◌<◌, ◌≡◌, refl, List, [], ◌∷◌, ◌++◌, length, take, get_or}
use Rattle.std.proofs.Common.{arith, ap}

module _ {A B : Type 0} where
  -- R holds at each place, and none has more
  pub data Along (R : A → B → Type 0) : List A → List B → Type 0 where
    end : Along R [] []
    ◌▹◌ : {x : A} {y : B} {xs : List A} {ys : List B} → R x y → Along R xs ys → Along R (x ∷ xs) (y ∷ ys)

infixr 5 ◌▹◌
module _ {A B : Type 0} {R : A → B → Type 0} where
  pub along_append : {xs : List A} {ys : List B} → Along R xs ys → {x : A} {y : B} → R x y → Along R (xs ++ (x ∷ [])) (ys ++ (y ∷ []))
  along_append end r = r ▹ end
  along_append (q ▹ h) r = q ▹ along_append h r

  pub along_take : (n : ℕ) {xs : List A} {ys : List B} → Along R xs ys → Along R (take n xs) (take n ys)
  along_take zero h = end
  along_take (suc n) end = end
  along_take (suc n) (r ▹ h) = r ▹ along_take n h

  pub along_length : {xs : List A} {ys : List B} → Along R xs ys → length ys ≡ length xs
  along_length end = refl
  along_length (r ▹ h) = ap suc (along_length h)

  pub along_at : {xs : List A} {ys : List B} → Along R xs ys → (d : A) (e : B) (i : ℕ) → i < length xs → R (get_or xs i d) (get_or ys i e)
  along_at end d e i l = absurd (omega arith)
  along_at (r ▹ h) d e zero l = r
  along_at (r ▹ h) d e (suc i) l = along_at h d e i (omega arith)
