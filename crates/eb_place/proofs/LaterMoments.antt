-- Later moments.
use Rattle.std.proofs.Common.{◌≡◌, ℕ, suc, inl, inr, List, [], ◌∷◌, ◌++◌, Option, Some, None, Bool, true, false, refl, sym, ◌∙◌, subst, arith, ◌<◌}
use mathlib.Core.List.{IsPrefix}
use Rattle.eb_base.specs.Document.{Doc}
use Rattle.eb_place.specs.declared.moment.Conversions.{Conversions}
use Rattle.eb_place.specs.declared.moment.Documents.{Documents}
use Rattle.eb_place.specs.declared.moment.Moment.{Moment}
use Rattle.eb_place.specs.Later.{Further, Goes, Reaches, ReachesPacked, IsNotBefore}
use Rattle.eb_place.specs.NextStores.{stores_done, IsCurrent, documents_after}
use Rattle.eb_place.proofs.Prefixes.{prefix_self, prefix_trans, prefix_push}

further_self : (c : Doc × ℕ) → Further c (Some c)
further_self c = (refl, omega arith)

-- documents are reached from themselves
pub reaches_self : (a : Documents) → Reaches a a
reaches_self a = record { accepted = prefix_self a.accepted; current = goes a.accepted a.current }
  where
    goes : (docs : List Doc) (c : Option (Doc × ℕ)) → Goes docs c record { accepted = docs; current = c }
    goes docs None = tt
    goes docs (Some c) = inl (refl, further_self c)

-- and so are conversions
pub packed_self : (a : Conversions) → ReachesPacked a a
packed_self a = inr (refl, omega arith)

packed_on : (a b c : Conversions) → ReachesPacked a b → ReachesPacked b c → ReachesPacked a c
packed_on a b c (inl p) (inl q) = inl (omega arith)
packed_on a b c (inl p) (inr q) = inl (omega (arith, q.0))
packed_on a b c (inr p) (inl q) = inl (omega (arith, p.0))
packed_on a b c (inr p) (inr q) = inr (p.0 ∙ q.0, omega (arith, p.1, q.1))

-- no moment is before itself
pub later_self : (m : Moment) → IsNotBefore m m
later_self m = record { setting = refl; documents = reaches_self m.documents; conversions = packed_self m.conversions }

goes_on : (docs : List Doc) (a : Option (Doc × ℕ)) (b c : Documents) → Goes docs a b → Reaches b c → Goes docs a c
goes_on docs None b c g r = tt
goes_on docs (Some a) b c (inr p) r = inr (prefix_trans _ _ _ p r.accepted)
goes_on docs (Some a) b c (inl p) r = goes_more a b.accepted b.current c (subst (λ (l : List Doc). l ≡ b.accepted) refl p.0) p.1 r.current
  where
    goes_more : (a : Doc × ℕ) (into : List Doc) (e : Option (Doc × ℕ)) (c : Documents) → docs ≡ into → Further a e → Goes into e c → Goes docs (Some a) c
    goes_more a into None c same f g = absurd f
    goes_more a into (Some e) c same f (inr p) = inr (subst (λ (l : List Doc). IsPrefix l c.accepted) (λ i. sym same i ++ sym f.0 i ∷ []) p)
    goes_more a into (Some e) c same f (inl p) = inl (same ∙ p.0, further_on a e c.current f p.1)
      where
        further_on : (a e : Doc × ℕ) (x : Option (Doc × ℕ)) → Further a (Some e) → Further e x → Further a x
        further_on a e None f g = g
        further_on a e (Some x) f g = (f.0 ∙ g.0, omega (arith, f.1, g.1))

-- what is reached from what is reached is reached
pub reaches_on : (a b c : Documents) → Reaches a b → Reaches b c → Reaches a c
reaches_on a b c r s = record { accepted = prefix_trans _ _ _ r.accepted s.accepted; current = goes_on a.accepted a.current b c r.current s }

-- not before goes on
pub later_on : (l m n : Moment) → IsNotBefore m l → IsNotBefore n m → IsNotBefore n l
later_on l m n r s = record { setting = r.setting ∙ s.setting; documents = reaches_on _ _ _ r.documents s.documents; conversions = packed_on _ _ _ r.conversions s.conversions }

-- one more store is later
pub reaches_stored : (docs : List Doc) (c : Option (Doc × ℕ)) (d : Doc) (b : Bool) → IsCurrent c d → Reaches record { accepted = docs; current = c } (documents_after b docs d (suc (stores_done c)))
reaches_stored docs None d true is = record { accepted = prefix_self docs; current = tt }
reaches_stored docs None d false is = record { accepted = prefix_push docs d; current = tt }
reaches_stored docs (Some c) d true is = record { accepted = prefix_self docs; current = inl (refl, (is, omega arith)) }
reaches_stored docs (Some c) d false is =
    record { accepted = prefix_push docs d; current = inr (subst (λ (e : Doc). IsPrefix (docs ++ c.0 ∷ []) (docs ++ e ∷ [])) is (prefix_self (docs ++ c.0 ∷ []))) }

-- the segment is one of those of a later moment
pub inside_later : (m n : Moment) (s : ℕ) → IsNotBefore n m → s < m.setting.segments → s < n.setting.segments
inside_later m n s l h = subst (λ σ. s < σ.segments) l.setting h
