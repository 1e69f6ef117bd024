-- The reading of an image takes one more part, or stops.
use Rattle.std.proofs.Common.{◌≡◌, ℕ, inl, inr, false, List, [], ◌∷◌, ◌++◌, Option, refl, sym, ap, ◌∙◌}
use Rattle.std.proofs.Common.{arith, append_assoc, append-nil}
use Rattle.std.specs.List.{flat_map}
use Rattle.eb_base.specs.Document.{Doc, IsDocument}
use Rattle.eb_base.specs.Setting.{Setting, IsSetting}
use Rattle.eb_image.specs.Image.{head_of, document_part, last_byte, image_of}
use Rattle.eb_image.specs.Reading.{IsHead, IsNextPart, IsPart, IsBad, HasBegun}
use Rattle.eb_image.specs.declared.fault.ImageFault.TheVariants as fault
use Rattle.eb_image.specs.declared.fault.ImageFault.{ImageFault}
use Rattle.eb_io.specs.Source.{after}
use Rattle.eb_io.proofs.Bytes.{after-after}
use Rattle.eb_place.specs.Room.{has_room, HasRoom}
use Rattle.eb_place.proofs.AfterStore.{lawful_push}
use Rattle.run_index.specs.declared.indexed.Indexed.{Indexed}
use Rattle.run_index.specs.Indexed.{Holds}
use Rattle.run_images.specs.Reading.{HasRead, IsFilled, IsReadingStopped}
use Rattle.run_images.proofs.Images.{read_bytes, none_read, none_next, bad_next, none_part, bad_room, read_push, none_head, bad_head}

-- these bytes were taken more
on : (read more : List ℕ) (first now left : Option (List ℕ)) → first ≡ after read now → now ≡ after more left → first ≡ after (read ++ more) left
on read more first now left e f = e ∙ ap (after read) f ∙ after-after read more left

module _ (s : Indexed) (σ : Setting) (docs : List Doc) (first now left : Option (List ℕ)) (allowed : IsSetting σ) (h : HasRead s σ docs first now) where
  pub takes_end : now ≡ after last_byte left → IsFilled s first left
  unfolding image_of
  takes_end e = record {
    setting = σ;
    documents = docs;
    allowed = allowed;
    lawful = h.lawful;
    store = h.store;
    taken = on (read_bytes σ docs) last_byte first now left h.taken e ∙ ap (λ b. after b left) (append_assoc (head_of σ) (flat_map document_part docs) last_byte);
  }

  pub takes_none : (t : List ℕ) → now ≡ after t left → HasBegun IsNextPart t → IsReadingStopped fault.ReadFault first left
  takes_none t e begun = record {
    bytes = read_bytes σ docs ++ t;
    taken = on (read_bytes σ docs) t first now left h.taken e;
    why = (
      none_next σ docs allowed h.lawful.documents t begun.none,
      inr (record { setting = σ; documents = docs; allowed = allowed; lawful = h.lawful; next = t; begun = begun; is = refl }),
    );
  }

  pub takes_bad : (t : List ℕ) → now ≡ after t left → IsBad IsNextPart t left → IsReadingStopped fault.BadImage first left
  takes_bad t e bad = record { bytes = read_bytes σ docs ++ t; taken = on (read_bytes σ docs) t first now left h.taken e; why = bad_next σ docs allowed h.lawful.documents t left bad }

  pub takes_short : (t : List ℕ) → now ≡ after t left → IsPart t → IsReadingStopped fault.NoMemory first left
  takes_short t e p = record {
    bytes = read_bytes σ docs ++ document_part p.document;
    taken = on (read_bytes σ docs) (document_part p.document) first now left h.taken (e ∙ ap (λ b. after b left) p.is);
    why = none_part σ docs p.document allowed h.lawful.documents p.within;
  }

  -- the reader stopped
  pub takes_fault : (f : ImageFault) → (f ≡ fault.BadImage → (t : List ℕ) × (now ≡ after t left) × IsBad IsNextPart t left)
      → (f ≡ fault.ReadFault → (t : List ℕ) × (now ≡ after t left) × HasBegun IsNextPart t) → (f ≡ fault.NoMemory → (t : List ℕ) × (now ≡ after t left) × IsPart t) → IsReadingStopped f first left
  takes_fault fault.BadImage bad failed short = let t = bad refl in takes_bad t.0 t.1 t.2
  takes_fault fault.ReadFault bad failed short = let t = failed refl in takes_none t.0 t.1 t.2
  takes_fault fault.NoMemory bad failed short = let t = short refl in takes_short t.0 t.1 t.2

  pub takes_full : (d : Doc) → IsDocument d → now ≡ after (document_part d) left → has_room σ docs d ≡ false → IsReadingStopped fault.BadImage first left
  takes_full d within e full = record {
    bytes = read_bytes σ docs ++ document_part d;
    taken = on (read_bytes σ docs) (document_part d) first now left h.taken e;
    why = bad_room σ docs d allowed h.lawful.documents within left full;
  }

  pub takes_part : (new : Indexed) (d : Doc) → IsDocument d → now ≡ after (document_part d) left → HasRoom σ docs d → Holds new σ (docs ++ d ∷ []) → HasRead new σ (docs ++ d ∷ []) first left
  takes_part new d within e room store = record {
    lawful = lawful_push σ docs d h.lawful within room;
    store = store;
    taken = on (read_bytes σ docs) (document_part d) first now left h.taken e ∙ ap (λ b. after b left) (read_push σ docs d allowed h.lawful.documents within);
  }

-- before the first part
pub takes_head : (s : Indexed) (σ : Setting) (first left : Option (List ℕ)) → first ≡ after (head_of σ) left → Holds s σ [] → HasRead s σ [] first left
takes_head s σ first left e store = record {
  lawful = record { documents = λ k d lt. absurd (omega (arith, lt)); rooms = λ k d at. absurd (cc at) };
  store = store;
  taken = e ∙ ap (λ b. after b left) (sym (append-nil (head_of σ)));
}

pub stops_at : (s : Indexed) (σ : Setting) (docs : List Doc) (first left : Option (List ℕ)) → IsSetting σ → HasRead s σ docs first left → IsReadingStopped fault.NoMemory first left
stops_at s σ docs first left allowed h = record { bytes = read_bytes σ docs; taken = h.taken; why = none_read σ docs allowed h.lawful.documents }

-- there is no memory for the index
pub stops_head : (σ : Setting) (first left : Option (List ℕ)) → IsSetting σ → first ≡ after (head_of σ) left → IsReadingStopped fault.NoMemory first left
stops_head σ first left allowed e = record {
  bytes = read_bytes σ [];
  taken = e ∙ ap (λ b. after b left) (sym (append-nil (head_of σ)));
  why = none_read σ [] allowed (λ k d lt. absurd (omega (arith, lt)));
}

pub no_head : (t : List ℕ) (first left : Option (List ℕ)) → first ≡ after t left → HasBegun IsHead t → IsReadingStopped fault.ReadFault first left
no_head t first left e begun = record { bytes = t; taken = e; why = (none_head t begun.none, inl begun) }

pub no_image : (t : List ℕ) (first left : Option (List ℕ)) → first ≡ after t left → IsBad IsHead t left → IsReadingStopped fault.BadImage first left
no_image t first left e bad = record { bytes = t; taken = e; why = bad_head t left bad }
