-- The items of an array.
use Rattle.std.proofs.Common.{◌≡◌, suc, List, [], ◌∷◌, length, refl, ap}
use Rattle.serde_json.specs.View.{items_view}
use Rattle.serde_json.specs.declared.value.Value.{Value}
use Rattle.eb_doc.specs.FieldTerms.{item_count}

pub count_is : (values : List Value) → item_count (items_view values) ≡ length values
count_is [] = refl
count_is (v ∷ vs) = ap suc (count_is vs)
