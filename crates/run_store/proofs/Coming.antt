-- What lines come to, with one line more.
use Rattle.eb_fields.specs.Dialect.{Dialect}
use Rattle.std.proofs.Common.{◌≡◌, ℕ, suc, List, [], ◌∷◌, ◌++◌, length, refl, sym, ap, ◌∙◌, append_assoc, append-nil}
use Rattle.std.proofs.lemmas.Slice.Zip.{AllZip-long}
use Rattle.eb_base.specs.Document.{Doc}
use Rattle.eb_io.specs.Lines.{Line}
use Rattle.eb_lines.specs.Progress.{documents_in, accepted}
use Rattle.eb_lines.specs.Reading.{Reading}
use Rattle.eb_lines.proofs.OneReading.{raw_push}
use Rattle.run_store.specs.Rules.{Rules, comes, come_behind, watches_after, watches_from, ReadsWith, ComeTo, AreRead, held_behind, watches_behind}

module _ {W : Type 0} (rules : Rules W) where
  come-push : (docs : List Doc) (ws : W) (rs : List Reading) (r : Reading)
      → come_behind rules docs ws (rs ++ r ∷ [])
      ≡ come_behind rules docs ws rs ++ comes rules (docs ++ accepted (come_behind rules docs ws rs)) (watches_from rules ws (come_behind rules docs ws rs)) r ∷ []
  unfolding come_behind accepted watches_from
  come-push docs ws [] r = ap (λ ds. comes rules ds ws r ∷ []) (sym (append-nil docs))
  come-push docs ws (s ∷ rs) r =
      let own = comes rules docs ws s in
      let next = watches_after rules ws own in
      let rest = come_behind rules (docs ++ documents_in own) next rs in
      ap (λ xs. own ∷ xs) (come-push (docs ++ documents_in own) next rs r
      ∙ ap (λ ds. rest ++ comes rules ds (watches_from rules next rest) r ∷ []) (append_assoc docs (documents_in own) (accepted rest)))

  come_long : (docs : List Doc) (ws : W) (rs : List Reading) → length (come_behind rules docs ws rs) ≡ length rs
  unfolding come_behind
  come_long docs ws [] = refl
  come_long docs ws (r ∷ rs) = ap suc (come_long (docs ++ documents_in (comes rules docs ws r)) (watches_after rules ws (comes rules docs ws r)) rs)

  pub watches-push : (ws : W) (rs : List Reading) (r : Reading) → watches_from rules ws (rs ++ r ∷ []) ≡ watches_after rules (watches_from rules ws rs) r
  unfolding watches_from
  watches-push ws [] r = refl
  watches-push ws (s ∷ rs) r = watches-push (watches_after rules ws s) rs r

  pub watches-nil : (ws : W) → watches_from rules ws [] ≡ ws
  unfolding watches_from
  watches-nil ws = refl

  module _ (reads : Line → Reading → Type 0) where
    pub come_none : ComeTo reads rules [] []
    unfolding come_behind
    come_none = ([], tt, refl)

    pub come_more : (ls : List Line) (rs : List Reading) (l : Line) (r : Reading) → ComeTo reads rules ls rs → reads l r
        → ComeTo reads rules (ls ++ l ∷ []) (rs ++ comes rules (held_behind rules rs) (watches_behind rules rs) r ∷ [])
    come_more ls rs l r h e = (
      h.0 ++ r ∷ [],
      raw_push reads ls h.0 l r h.1 e,
      ap (λ xs. xs ++ comes rules (held_behind rules xs) (watches_behind rules xs) r ∷ []) h.2 ∙ sym (come-push rules.start rules.watches h.0 r),
    )

    pub come_as_many : (ls : List Line) (rs : List Reading) → ComeTo reads rules ls rs → length rs ≡ length ls
    come_as_many ls rs h = ap length h.2 ∙ come_long rules.start rules.watches h.0 ∙ AllZip-long reads ls h.0 h.1

  module _ (other : Dialect → List ℕ → Reading → Type 0) where
    pub read_none : AreRead other rules [] []
    read_none = come_none (ReadsWith other rules.dialect)

    pub read_push : (ls : List Line) (rs : List Reading) (l : Line) (r : Reading) → AreRead other rules ls rs → ReadsWith other rules.dialect l r
        → AreRead other rules (ls ++ l ∷ []) (rs ++ comes rules (held_behind rules rs) (watches_behind rules rs) r ∷ [])
    read_push = come_more (ReadsWith other rules.dialect)

    pub read_long : (ls : List Line) (rs : List Reading) → AreRead other rules ls rs → length rs ≡ length ls
    read_long = come_as_many (ReadsWith other rules.dialect)
