-- The machines that trials hold.
use Rattle.std.specs.Prelude.{ℕ, ◌+◌, ◌-◌, max}
use Rattle.whatif.specs.declared.images.Images.{Images}

-- at once no more: where they begin, the run without one, the way to the next of them, and one on its own
abbrev pub most_images : ℕ
most_images = 4

-- none, one more, one that was made and let go, and one less
abbrev pub no_images : Images
no_images = record { held = 0; most = 0 }

abbrev pub with_image : Images → Images
with_image images = record { held = images.held + 1; most = max images.most (images.held + 1) }

abbrev pub past_image : Images → Images
past_image images = record images { most = max images.most (images.held + 1) }

abbrev pub less_image : Images → Images
less_image images = record images { held = images.held - 1 }
