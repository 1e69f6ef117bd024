-- Of two parts that lie on one history, the later.
use Rattle.std.proofs.Common.{◌≡◌, ℕ, ◌<◌, ◌≤◌, inl, inr, [], ◌∷◌, length, Option, Some, None, Bool, true, false, ltb, cond, refl, ap, sym, ◌∙◌, subst, arith, length-append}
use Rattle.std.proofs.lemmas.Bool.{lt-ltb, le-ltb}
use native.Mathlib.Decide.{dec_lt}
use Rattle.eb_base.specs.Document.{Doc}
use Rattle.eb_place.specs.declared.moment.Documents.{Documents}
use Rattle.eb_place.specs.Later.{Further, Goes, Reaches}
use Rattle.eb_place.specs.Meets.{rank, is_behind, later_documents}
use Rattle.eb_place.proofs.Prefixes.{prefix_shorter, prefix_whole, prefix_length, prefix_next}
use Rattle.eb_place.proofs.LaterMoments.{reaches_self}

-- of two parts before one, the one with fewer accepted documents, or with as many and no higher
-- rank, is not after the other
behind_fewer : (a b c : Documents) → Reaches a c → Reaches b c → length a.accepted < length b.accepted → Reaches a b
behind_fewer a b c r s less = record { accepted = prefix_shorter _ _ _ r.accepted s.accepted (omega arith); current = goes a.current r.current }
  where
    goes : (x : Option (Doc × ℕ)) → Goes a.accepted x c → Goes a.accepted x b
    goes None g = tt
    goes (Some x) (inl p) = absurd (omega (arith, prefix_length _ _ s.accepted, ap length p.0))
    goes (Some x) (inr p) = inr (prefix_shorter _ _ _ p s.accepted (omega (arith, length-append a.accepted (x.0 ∷ []))))

behind_same : (a b c : Documents) → Reaches a c → Reaches b c → length a.accepted ≡ length b.accepted → rank a.current ≤ rank b.current → Reaches a b
behind_same a b c r s same le = record { accepted = prefix_shorter _ _ _ r.accepted s.accepted (omega arith); current = goes a.current b.current refl r.current s.current le }
  where
    equal : a.accepted ≡ b.accepted
    equal = prefix_whole _ _ (prefix_shorter _ _ _ r.accepted s.accepted (omega arith)) (omega arith)

    meets : (x y : Doc × ℕ) (e : Option (Doc × ℕ)) → Further x e → Further y e → x.0 ≡ y.0
    meets x y None f g = absurd f
    meets x y (Some e) f g = f.0 ∙ sym g.0

    goes : (x y : Option (Doc × ℕ)) → y ≡ b.current → Goes a.accepted x c → Goes b.accepted y c → rank x ≤ rank y → Goes a.accepted x b
    goes None y is g h l = tt
    goes (Some x) None is g h l = absurd (omega arith)
    goes (Some x) (Some y) is (inl p) (inl q) l = inl (equal, subst (Further x) is (meets x y c.current p.1 q.1, omega arith))
    goes (Some x) (Some y) is (inl p) (inr q) l = absurd (omega (arith, prefix_length _ _ q, length-append b.accepted (y.0 ∷ []), ap length p.0))
    goes (Some x) (Some y) is (inr p) (inl q) l = absurd (omega (arith, prefix_length _ _ p, length-append a.accepted (x.0 ∷ []), ap length q.0))
    goes (Some x) (Some y) is (inr p) (inr q) l = inl (equal, subst (Further x) is ((prefix_next _ _ _ _ _ p q same).1, omega arith))

-- d comes after a and b, and c after d
pub record Between (a b c d : Documents) : Type 0 where
  pub first : Reaches a d
  pub second : Reaches b d
  pub third : Reaches d c

-- the later of two documents parts is the least after both
pub documents_meet : (a b c : Documents) → Reaches a c → Reaches b c → Between a b c (later_documents a b)
unfolding later_documents
documents_meet a b c r s = by_count (dec_lt (length a.accepted) (length b.accepted)) (dec_lt (length b.accepted) (length a.accepted)) (dec_lt (rank a.current) (rank b.current))
  where
    here : (x y z : Bool) → ltb (length a.accepted) (length b.accepted) ≡ x → ltb (length b.accepted) (length a.accepted) ≡ y
        → ltb (rank a.current) (rank b.current) ≡ z → Between a b c (cond (cond x true (cond y false z)) b a) → Between a b c (cond (is_behind a b) b a)
    here x y z e f g h = rw (e, f, g) h

    by_count : Dec (length a.accepted < length b.accepted) → Dec (length b.accepted < length a.accepted) → Dec (rank a.current < rank b.current) → Between a b c (cond (is_behind a b) b a)
    by_count (yes h) _ _ = here true _ _ (lt-ltb _ _ h) refl refl record { first = behind_fewer a b c r s h; second = reaches_self b; third = s }
    by_count (no h) (yes k) _ = here false true _ (le-ltb _ _ (omega arith)) (lt-ltb _ _ k) refl record { first = reaches_self a; second = behind_fewer b a c s r k; third = r }
    by_count (no h) (no k) (yes l) = here false false true (le-ltb _ _ (omega arith)) (le-ltb _ _ (omega arith))
        (lt-ltb _ _ l) record { first = behind_same a b c r s (omega arith) (omega arith); second = reaches_self b; third = s }
    by_count (no h) (no k) (no l) = here false false false (le-ltb _ _ (omega arith)) (le-ltb _ _ (omega arith))
        (le-ltb _ _ (omega arith)) record { first = reaches_self a; second = behind_same b a c s r (omega arith) (omega arith); third = r }
