mod LengthLaws
