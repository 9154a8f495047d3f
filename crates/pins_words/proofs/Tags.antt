-- Written by tools/pins --write, from the promises of crates/tags/src: any two outcomes that a call's own promise allows are one.
use mathlib.Core.Path.{sym, ◌∙◌}
use Rattle.pins.proofs.One.{OneAnswer}
use Rattle.tags.proofs.option_tag.Reads as option-tag-reads
use Rattle.tags.proofs.promise_tag.Reads as promise-tag-reads
use Rattle.tags.proofs.promise_meta.Reads as promise-meta-reads
use Rattle.tags.proofs.option_of.Reads as option-of-reads
use Rattle.tags.proofs.promise_of.Reads as promise-of-reads
use Rattle.tags.proofs.role_of.Reads as role-of-reads
use Rattle.tags.proofs.phase_of.Reads as phase-of-reads

pub option-tag : (κs : _) (k : _) (c : _) (g : _) (d : _) (l : _) (a : _) → OneAnswer (option-tag-reads.Post κs k c g d l a)
option-tag κs k c g d l a r₁ r₂ s₁ s₂ p q = p ∙ sym q

pub promise-tag : (κs : _) (a : _) → OneAnswer (promise-tag-reads.Post κs a)
promise-tag κs a r₁ r₂ s₁ s₂ p q = p ∙ sym q

pub promise-meta : (κs : _) (a : _) → OneAnswer (promise-meta-reads.Post κs a)
promise-meta κs a r₁ r₂ s₁ s₂ p q = p ∙ sym q

pub option-of : (κs : _) (k : _) (c : _) (g : _) (d : _) (l : _) (a : _) → OneAnswer (option-of-reads.Post κs k c g d l a)
option-of κs k c g d l a r₁ r₂ s₁ s₂ p q = p ∙ sym q

pub promise-of : (κs : _) (a : _) → OneAnswer (promise-of-reads.Post κs a)
promise-of κs a r₁ r₂ s₁ s₂ p q = p ∙ sym q

pub role-of : (κs : _) (a : _) → OneAnswer (role-of-reads.Post κs a)
role-of κs a r₁ r₂ s₁ s₂ p q = p ∙ sym q

pub phase-of : (κs : _) (a : _) → OneAnswer (phase-of-reads.Post κs a)
phase-of κs a r₁ r₂ s₁ s₂ p q = p ∙ sym q
