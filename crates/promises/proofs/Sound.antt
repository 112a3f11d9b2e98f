-- Demand 3: what holds of every accepted image, at every node.
use Prim.Native.Nat.{ℕ, ◌<◌}
use Rattle.image.specs.Sections.{Sections, node_count}
use Rattle.image.specs.Header.{sections_of}
use Rattle.promises.specs.Promises.{NodeSound, Sound, AcceptedSound}
use Rattle.promises.proofs.Premises.{Kept, load_kept, a_node}
use Rattle.promises.proofs.Views.{viewed}
use Rattle.promises.proofs.Nodes.{reaches, target-inside, texts-inside, ordered-child, named-child}
use Rattle.promises.proofs.Entries.{entries-inside}
use Rattle.promises.proofs.Index.{named-once}

module _ (s : Sections) (g : Kept s) where
  pub stands : (i : ℕ) → i < node_count s → NodeSound s i
  stands i h =
      record {
        viewed = viewed s i (a_node g i h) (g.rules.fields i h);
        root = reaches s g i h;
        ordered = ordered-child s g i h;
        named = named-child s g i h;
        target = target-inside s g i h;
        texts = texts-inside s g i h;
      }

  pub sound : Sound s
  sound = record { nodes = stands; entries = entries-inside s g; index = named-once s g.some g.rules }

pub accepted-sound : AcceptedSound
accepted-sound bs work b p = sound (sections_of bs) (load_kept bs work b p)
