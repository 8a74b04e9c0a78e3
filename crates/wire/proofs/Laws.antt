-- Theorems above those of specs/Laws: where an edit of a definition makes one there false, what rests on it stands here.
pub mod RoundTrip
