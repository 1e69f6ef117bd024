-- What holds of an outcome holds in another form too.
use Rattle.std.proofs.Common.{Result, Ok, Err}
use Rattle.std.specs.Prelude.{IfOk, OnOk, OnErr, MatchResult, ⊤}

pub ok_on : {T E P Q : Type 0} (r : Result T E) → OnOk r P → (P → Q) → OnOk r Q
ok_on (Ok x) p f = f p
ok_on (Err e) p f = tt

pub err_on : {T E P Q : Type 0} (r : Result T E) → OnErr r P → (P → Q) → OnErr r Q
err_on (Ok x) p f = tt
err_on (Err e) p f = f p

pub err_any : {T E P : Type 0} (r : Result T E) → P → OnErr r P
err_any (Ok x) p = tt
err_any (Err e) p = p

pub ok_match : {T E : Type 0} {P Q : T → Type 0} (r : Result T E) → IfOk r P → ((x : T) → P x → Q x) → MatchResult r Q (λ e. ⊤)
ok_match (Ok x) p f = f x p
ok_match (Err e) p f = tt
